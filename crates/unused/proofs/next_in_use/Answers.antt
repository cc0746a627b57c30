-- `next_in_use` tells whether a state exists and a joint action is available there.
use Rattle.std.proofs.Common.{rules, tests}
use native.Mathlib.Omega.{arith}
use Rattle.block.proofs.Decide as D
use Rattle.unused.proofs.next_in_use.Goals as goal

pub returns-then-s-states : goal.returns-then-s-states
returns-then-s-states c = D.same c.available.ensures (λ h. (omega arith, h)) (λ x. x.1)

pub returns-else-s-states : goal.returns-else-s-states
returns-else-s-states c = D.no (search (rules, tests)) (λ x. omega arith)
