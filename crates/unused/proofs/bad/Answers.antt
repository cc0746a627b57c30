-- `bad` decides number 6: it looks over the places.
use mathlib.Core.Path.{refl}
use Rattle.std.proofs.Common.{rules}
use Rattle.block.proofs.Chains.{any_below}
use Rattle.unused.proofs.bad.Goals as goal

pub returns : goal.returns
returns c = any_below (λ x b q h k. search rules) c.any.ensures.ran refl refl
