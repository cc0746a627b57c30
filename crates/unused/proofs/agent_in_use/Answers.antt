-- `agent_in_use` tells whether a state and an agent exist.
use Rattle.std.proofs.Common.{rules, tests}
use native.Mathlib.Omega.{arith}
use Rattle.block.proofs.Decide as D
use Rattle.unused.proofs.agent_in_use.Goals as goal

pub returns-then-s-states : goal.returns-then-s-states
returns-then-s-states c = D.same (D.less c.args.a c.agents.result)
    (λ h. (omega arith, omega arith))
    (λ x. omega arith)

pub returns-else-s-states : goal.returns-else-s-states
returns-else-s-states c = D.no (search (rules, tests)) (λ x. omega arith)
