-- `action_on` looks for such a charge over the resources.
use mathlib.Core.Path.{refl}
use Rattle.std.proofs.Common.{rules}
use Rattle.block.proofs.Chains.{any_below}
use Rattle.charges.proofs.action_on.Goals as goal

pub returns : goal.returns
returns c = any_below (λ x b q h k. search rules) c.any.ensures.ran refl c.resources.ensures
