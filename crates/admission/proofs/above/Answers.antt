-- `above` compares a stock with the resource's stock places.
use mathlib.Core.Bool.{Bool, cond}
use mathlib.Core.Path.{◌≡◌, ap}
use Prim.Native.Nat.{◌≤◌}
use native.Mathlib.Omega.{arith}
use borrow.Author.Tests.{le-ltb}
use Rattle.block.specs.Layout as L
use Rattle.block.proofs.Decide as D
use Rattle.game.specs.Rbatl.{unlimited}
use Rattle.game.specs.Position.{places}
use Rattle.game.specs.Model.{bound_of, bounds_of}
use Rattle.admission.proofs.above.Goals as goal

-- an absent resource has one stock place
pub returns-then-resources-j : goal.returns-then-resources-j
returns-then-resources-j c = let absent : L.resources c.args.block.now ≤ c.args.j = omega (arith, c.resources.ensures, c.if-resources-j.true) in
    let one : places (bounds_of c.args.block.now c.args.i c.args.j) ≡ 1 = ap (λ (t : Bool). places (cond t (bound_of (L.bound c.args.block.now c.args.i c.args.j)) unlimited)) (le-ltb c.args.j (L.resources c.args.block.now) absent) in
    D.same (D.at_most 1 c.args.stock) (λ h. omega (arith, one)) (λ h. omega (arith, one))

pub places-requires : goal.places-requires
places-requires c = record { valid = c.requires.valid; i_bound = (c.requires.i_bound.0, omega (arith, c.resources.ensures, c.if-resources-j.false), c.requires.i_bound.1) }

pub returns : goal.returns
returns c = D.same (D.at_most c.places.result c.args.stock) (λ h. omega (arith, c.places.ensures)) (λ h. omega (arith, c.places.ensures))
