-- `strategic` tells the kinds with a team.
use native.Mathlib.Omega.{arith}
use Rattle.block.proofs.Decide as D
use Rattle.block.proofs.kinds.strategic.Goals as goal

pub returns-then-k-ge-NEXT_KIND : goal.returns-then-k-ge-NEXT_KIND
returns-then-k-ge-NEXT_KIND c = D.same (D.at_most _ _) (λ h. (c.if-k-ge-NEXT_KIND.true, h)) (λ x. x.1)

pub returns-else-k-ge-NEXT_KIND : goal.returns-else-k-ge-NEXT_KIND
returns-else-k-ge-NEXT_KIND c = D.same (D.at_most _ _) (λ h. absurd (omega (arith, h, c.if-k-ge-NEXT_KIND.false))) (λ x. x.0)
