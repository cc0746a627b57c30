-- `between` looks at both ends of the range.
use native.Mathlib.Omega.{arith}
use Rattle.block.proofs.Decide as D
use Rattle.boards.proofs.board.between.Goals as goal

pub returns-then-low-r : goal.returns-then-low-r
returns-then-low-r c = D.same (D.less _ _) (λ less. (omega (arith, c.if-low-r.true), less)) (λ (_, less). less)

pub returns-else-low-r : goal.returns-else-low-r
returns-else-low-r c = D.same (D.at_most _ _) (λ low. absurd (omega (arith, c.if-low-r.false))) (λ (low, _). low)
