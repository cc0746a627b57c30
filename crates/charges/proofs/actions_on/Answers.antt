-- `actions_on` looks for such a charge over the actions of an agent.
use mathlib.Core.Path.{refl}
use Rattle.std.proofs.Common.{rules}
use Rattle.block.proofs.Chains.{any_below}
use Rattle.charges.proofs.actions_on.Goals as goal

pub returns : goal.returns
returns c = any_below (λ x b q h k. search rules) c.any.ensures.ran refl c.count.ensures
