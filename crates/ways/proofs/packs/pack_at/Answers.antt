-- `pack_at` takes one stock after another from the place, the last one first.
use mathlib.Core.Path.{◌≡◌, subst}
use Prim.Native.Nat.{ℕ, suc, ◌+◌, ◌*◌, ◌-◌, ◌/◌, ◌%◌, ◌≤◌, ◌<◌}
use native.Mathlib.Omega.{arith}
use Rattle.block.specs.Layout as L
use Rattle.game.specs.Model.{bounds_of}
use Rattle.game.proofs.Local.Same.{places_positive}
use Rattle.game.proofs.Blocks.Passing.{few_places}
use Rattle.ways.proofs.Packing.{PackingTo, packing_start, packing_next, packing_done}
use Rattle.ways.proofs.packs.pack_at.Goals as goal
use Rattle.ways.proofs.packs.pack_at.Lts as lts
use Rattle.ways.proofs.packs.pack_at.Reads as reads
use Rattle.ways.proofs.packs.pack_at.Tie as tie

abbrev At-After-places-c : Type 0
At-After-places-c = lts.After-places tie.the-claims reads.Pre reads.Post goal.the-invariant-loop-j goal.the-decreases-loop-j tie.handed_clauses

abbrev At-In-loop-j : Type 0
At-In-loop-j = lts.In-loop tie.the-claims reads.Pre reads.Post goal.the-invariant-loop-j goal.the-decreases-loop-j tie.handed_clauses

pub loop-j-init : goal.loop-j-init
loop-j-init c = packing_start c.args.block.now c.args.i c.args.x c.resources-n.result c.resources-n.ensures

resource_at : (c : At-In-loop-j) → c.loop-j.j - 1 < L.resources c.args.block.now
resource_at c = omega (arith, c.loop-j.invariant.few, c.loop-j-test.true)

pub places-c-requires : goal.places-c-requires
places-c-requires c = record { valid = c.requires.valid; i_bound = (c.requires.i_bound.0, resource_at c.before, c.requires.i_bound.1) }

-- how many places the resource has
module _ (c : At-After-places-c) where
  some : 0 < c.places-c.result
  some = omega (arith, c.places-c.ensures, places_positive (bounds_of c.args.block.now c.args.i (c.loop-j.j - 1)))

  few : c.places-c.result ≤ 16
  few =
      omega (arith, c.places-c.ensures, few_places c.args.block.now c.requires.valid c.args.i (c.requires.valid.row_fits c.args.i c.requires.i_bound.0) c.requires.i_bound.1 (c.loop-j.j - 1) (resource_at c.before))

  next : PackingTo c.args.block.now c.args.i c.args.x (c.loop-j.j - 1) (c.loop-j.rest / c.places-c.result) (c.loop-j.packed * 32 + c.loop-j.rest % c.places-c.result)
  next =
      let one : c.loop-j.j ≡ suc (c.loop-j.j - 1) = omega (arith, c.loop-j-test.true) in
      packing_next c.args.block.now c.requires.valid c.args.i c.args.x (c.loop-j.j - 1) c.loop-j.rest c.loop-j.packed c.places-c.result c.places-c.ensures some few
      (subst (λ (j : ℕ). PackingTo c.args.block.now c.args.i c.args.x j c.loop-j.rest c.loop-j.packed) one c.loop-j.invariant)

pub overflow_mul-packed : goal.overflow_mul-packed
overflow_mul-packed c = record { fits = omega (arith, c.loop-j.invariant.small) }

pub overflow_add-packed : goal.overflow_add-packed
overflow_add-packed c = record { fits = omega (arith, (next c.before).small) }

pub loop-j-preserved : goal.loop-j-preserved
loop-j-preserved c = next c.before

pub returns : goal.returns
returns c = let none : c.loop-j.j ≡ 0 = omega (arith, c.loop-j-test.false) in
    (packing_done c.args.block.now c.args.i c.args.x c.loop-j.rest c.loop-j.packed (subst (λ (j : ℕ). PackingTo c.args.block.now c.args.i c.args.x j c.loop-j.rest c.loop-j.packed) none c.loop-j.invariant), c.loop-j.invariant.small)
