-- `bad` decides number 3: it looks over the states.
use mathlib.Core.Path.{refl}
use Rattle.std.proofs.Common.{rules}
use Rattle.block.proofs.Chains.{any_below}
use Rattle.conditions.proofs.states.bad.Goals as goal

pub returns : goal.returns
returns c = any_below (λ x b q h k. search rules) c.any.ensures.ran refl c.states.ensures
