-- `binary` tells the kinds with a right row.
use mathlib.Core.Logic.{inl, inr, ⊎_elim}
use Rattle.block.proofs.Decide as D
use Rattle.block.proofs.kinds.binary.Goals as goal

pub returns-then-k-eq-OR_KIND : goal.returns-then-k-eq-OR_KIND
returns-then-k-eq-OR_KIND c = D.same (D.equal _ _) inl (λ _. c.if-k-eq-OR_KIND.true)

pub returns-else-k-eq-OR_KIND : goal.returns-else-k-eq-OR_KIND
returns-else-k-eq-OR_KIND c = D.same (D.equal _ _) inr (λ x. ⊎_elim (λ h. absurd (c.if-k-eq-OR_KIND.false h)) (λ h. h) x)
