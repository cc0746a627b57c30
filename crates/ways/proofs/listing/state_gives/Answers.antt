-- `state_gives` looks for a move that gives over those of the state.
use mathlib.Core.Path.{refl}
use Rattle.std.proofs.Common.{rules}
use Rattle.ways.proofs.Tells.{any_told}
use Rattle.ways.proofs.listing.state_gives.Goals as goal

pub returns : goal.returns
returns c = any_told (λ x q h k. search rules) (λ x q h k. search rules) c.any.ensures.ran refl c.count-n.ensures
