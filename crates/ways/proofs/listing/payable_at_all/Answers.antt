-- `payable_at_all` asks of each resource whether its full stock pays.
use mathlib.Core.Path.{refl}
use Prim.Native.Nat.{◌<◌}
use native.Mathlib.Omega.{arith}
use Rattle.std.proofs.Common.{rules}
use Rattle.std.proofs.lemmas.Iterator.{serves_from_Range}
use Rattle.block.specs.Layout as L
use Rattle.ways.proofs.Offsets.{full_taken, taken_full}
use Rattle.ways.proofs.Tells.{all_told}
use Rattle.ways.proofs.listing.payable_at_all.Goals as goal

pub all-requires-clause-callable : goal.all-requires-clause-callable
all-requires-clause-callable c = serves_from_Range (λ x q k. search rules) (λ j _ below.
    let small : j < L.resources c.args.block.now = omega (arith, c.resources-n.ensures) in
    search rules)

pub returns : goal.returns
returns c = all_told (λ x q h k. search (rules, taken_full)) (λ x q h k. search (rules, full_taken)) c.all.ensures.ran refl c.resources-n.ensures
