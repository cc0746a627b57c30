-- `any` looks for such a charge over the states.
use mathlib.Core.Path.{refl}
use Rattle.std.proofs.Common.{rules}
use Rattle.block.proofs.Chains.{any_below}
use Rattle.charges.proofs.any.Goals as goal

pub returns : goal.returns
returns c = any_below (λ x b q h k. search rules) c.any.ensures.ran refl c.states.ensures
