-- `cost_bad` tells a cost of idle, and a byte 16 to 240.
use mathlib.Core.Logic.{inl, inr, ⊎_elim}
use native.Mathlib.Omega.{arith}
use Rattle.block.proofs.Decide as D
use Rattle.conditions.proofs.states.cost_bad.Goals as goal

pub returns-then-k-eq0 : goal.returns-then-k-eq0
returns-then-k-eq0 c = D.same (D.less 0 c.cost_byte-c.result)
    (λ h. inr (omega arith, omega arith))
    (λ x. ⊎_elim (λ h. omega arith) (λ h. omega arith) x)

pub returns-then-c-gt-MAX_UNITS : goal.returns-then-c-gt-MAX_UNITS
returns-then-c-gt-MAX_UNITS c = D.same (D.less c.cost_byte-c.result _)
    (λ h. inl (omega arith))
    (λ x. ⊎_elim (λ h. omega arith) (λ h. absurd (c.if-k-eq0.false h.0)) x)

pub returns-else-c-gt-MAX_UNITS : goal.returns-else-c-gt-MAX_UNITS
returns-else-c-gt-MAX_UNITS c = D.same (D.less _ c.cost_byte-c.result)
    (λ h. absurd (omega arith))
    (λ x. ⊎_elim (λ h. omega arith) (λ h. absurd (c.if-k-eq0.false h.0)) x)
