-- `actions_bad` tries an agent's count and looks for a bad cost over its actions.
use mathlib.Core.Path.{refl}
use Rattle.std.proofs.Common.{rules}
use Rattle.block.proofs.Chains.{any_below}
use Rattle.block.proofs.Decide as D
use Rattle.conditions.proofs.states.actions_bad.Goals as goal

pub returns-then-outside : goal.returns-then-outside
returns-then-outside c = D.or_first (rw c.count-n.ensures at c.outside.ensures) c.if-outside.true

pub returns-else-outside : goal.returns-else-outside
returns-else-outside c = D.or_second (rw c.count-n.ensures at c.outside.ensures) c.if-outside.false
    (any_below (λ k b q h r. search rules) c.any.ensures.ran refl c.count-n.ensures)
