-- `uses_field` tells the fields that a kind of row uses.
use Prim.Native.Nat.{◌+◌}
use mathlib.Core.Logic.{inl, inr, ⊎_elim}
use native.Mathlib.Omega.{arith}
use Rattle.block.specs.Inner.Tests.{holds}
use Rattle.block.proofs.Decide as D
use Rattle.unused.proofs.uses_field.Goals as goal

pub returns-then-f-le-LEFT_BYTE : goal.returns-then-f-le-LEFT_BYTE
returns-then-f-le-LEFT_BYTE c = holds (inl c.if-f-le-LEFT_BYTE.true)

pub returns-then-f-eq-RIGHT_BYTE : goal.returns-then-f-eq-RIGHT_BYTE
returns-then-f-eq-RIGHT_BYTE c = D.same c.binary.ensures
    (λ h. inr (inl (c.if-f-eq-RIGHT_BYTE.true, h)))
    (λ x. ⊎_elim (λ h. absurd (omega arith)) (λ y. ⊎_elim (λ z. z.1) (λ z. absurd (omega (arith, z.1))) y) x)

pub returns-then-strategic : goal.returns-then-strategic
returns-then-strategic c = D.same (D.less c.args.f (4 + c.resources.result))
    (λ h. inr (inr (D.truth c.strategic.ensures c.if-strategic.true, (omega arith, omega arith))))
    (λ x. ⊎_elim (λ h. absurd (omega arith)) (λ y. ⊎_elim (λ z. absurd (omega (arith, z.0))) (λ z. omega (arith, z.1)) y) x)

pub returns-else-strategic : goal.returns-else-strategic
returns-else-strategic c = D.no c.if-strategic.false
    (λ x. ⊎_elim (λ h. omega arith) (λ y. ⊎_elim (λ z. omega (arith, z.0)) (λ z. D.falsity c.strategic.ensures c.if-strategic.false z.0) y) x)
