-- `any_gives` looks for a state with a move that gives.
use mathlib.Core.Bool.{true}
use mathlib.Core.Path.{refl}
use Prim.Native.Nat.{◌≤◌, ◌<◌}
use native.Mathlib.Omega.{arith}
use Rattle.std.proofs.Common.{rules}
use Rattle.std.proofs.lemmas.Iterator.{serves_from_Range}
use Rattle.block.specs.Layout as L
use Rattle.block.proofs.Chains.{any_below}
use Rattle.ways.specs.Lines.{count_in}
use Rattle.ways.proofs.listing.any_gives.Goals as goal

pub any-requires-clause-callable : goal.any-requires-clause-callable
any-requires-clause-callable c = serves_from_Range (λ x q k. search rules) (λ s _ below.
    let small : s < L.states c.args.block.now = omega (arith, c.states-n.ensures) in
    let state : s < 24 = omega (arith, c.requires.valid.sized.states_fit) in
    let few : count_in c.args.ways.now s true ≤ L.max_joint = ((c.requires.playable.1.states s small).lines true).few in
    search rules)

pub returns : goal.returns
returns c = any_below (λ x b q h k. search rules) c.any.ensures.ran refl c.states-n.ensures
