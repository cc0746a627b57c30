-- `fire_spans` goes through the box of the places from which the move can land at its place.
use mathlib.Core.Path.{refl, ◌∙◌, ap}
use Prim.Native.Nat.{ℕ, ◌+◌, ◌-◌, ◌/◌, ◌%◌, ◌≤◌, ◌<◌}
use native.Mathlib.Omega.{arith}
use Rattle.ways.specs.Lines.{packed_in, taken_in}
use Rattle.ways.specs.Packed.{Narrow}
use Rattle.ways.proofs.Leading.{few, listed_small, taken_small, place_narrow}
use Rattle.ways.proofs.Packing.{comes_to}
use Rattle.stages.proofs.Carrying.{to_boxed}
use Rattle.stages.proofs.fire.fire_spans.Goals as goal
use Rattle.stages.proofs.fire.fire_spans.Lts as lts
use Rattle.stages.proofs.fire.fire_spans.Reads as reads
use Rattle.stages.proofs.fire.fire_spans.Tie as tie

abbrev At-After-unpack-gives : Type 0
At-After-unpack-gives = lts.After-unpack4 tie.the-claims reads.Pre reads.Post tie.handed_clauses

abbrev At-Start : Type 0
At-Start = lts.Start tie.the-claims reads.Pre reads.Post tie.handed_clauses

-- what is known at the start
module _ (start : At-Start) where
  small : (start.args.fire.state < 24) × (start.args.fire.index < 64)
  small = listed_small start.args.block.now start.requires.valid.0 start.args.fire.row start.args.ways.now start.requires.valid.1.listed start.args.fire.state start.args.fire.index start.requires.state_bound.0 start.requires.state_bound.2

  few_places : start.args.fire.row.places ≤ 256
  few_places = few start.args.block.now start.requires.valid.0 start.args.fire.row start.requires.valid.1.playable

  narrow : (y : ℕ) → y < start.args.fire.row.places → Narrow (packed_in start.args.ways.now y)
  narrow y below = place_narrow start.args.block.now start.requires.valid.0 start.args.fire.row start.requires.valid.1.playable start.args.ways.now start.requires.valid.1.listed.packed start.args.fire.state y start.requires.state_bound.0 (omega (arith, start.requires.valid.1.playable.places_are))

  takes_small : taken_in start.args.ways.now start.args.fire.state start.args.fire.index < start.args.fire.row.places
  takes_small =
      omega (
        arith,
        taken_small start.args.block.now start.requires.valid.0 start.args.fire.row start.requires.valid.1.playable start.args.ways.now start.requires.valid.1.listed start.args.fire.state start.args.fire.place start.args.fire.index (taken_in start.args.ways.now start.args.fire.state start.args.fire.index) start.requires.state_bound.0 start.requires.place_lt_places start.requires.state_bound.2 refl,
        start.requires.valid.1.playable.places_are,
      )

  full_narrow : Narrow (packed_in start.args.ways.now (start.args.fire.row.places - 1))
  full_narrow = narrow (start.args.fire.row.places - 1) (omega arith)

pub unpack-full-requires : goal.unpack-full-requires
unpack-full-requires c = (c.requires.valid.1.listed.long, omega (arith, few_places c.before.before.before.before.before.before.before, c.requires.place_lt_places))

pub unpack-left-requires : goal.unpack-left-requires
unpack-left-requires c = (c.requires.valid.1.listed.long, omega (arith, few_places c.before.before.before.before.before.before.before.before, c.requires.place_lt_places))

pub taken-requires : goal.taken-requires
taken-requires c = (c.requires.valid.1.listed.long, (small c.before.before.before.before.before.before.before.before.before).0, (small c.before.before.before.before.before.before.before.before.before).1)

pub unpack-takes-requires : goal.unpack-takes-requires
unpack-takes-requires c = (c.requires.valid.1.listed.long, c.taken.ensures.1)

pub given-requires : goal.given-requires
given-requires c = (c.requires.valid.1.listed.long, (small c.before.before.before.before.before.before.before.before.before.before.before).0, (small c.before.before.before.before.before.before.before.before.before.before.before).1)

pub unpack-gives-requires : goal.unpack-gives-requires
unpack-gives-requires c = (c.requires.valid.1.listed.long, c.given.ensures.1)

-- the digits of packed stocks
module _ (c : At-After-unpack-gives) where
  left_narrow : Narrow (packed_in c.args.ways.now c.args.fire.place)
  left_narrow = narrow c.before.before.before.before.before.before.before.before.before.before.before.before c.args.fire.place c.requires.place_lt_places

  takes_narrow : Narrow (packed_in c.args.ways.now c.taken.result)
  takes_narrow = narrow c.before.before.before.before.before.before.before.before.before.before.before.before c.taken.result (omega (arith, c.taken.ensures.0, takes_small c.before.before.before.before.before.before.before.before.before.before.before.before))

pub span_of-low-requires : goal.span_of-low-requires
span_of-low-requires c = (omega (arith, c.unpack-left.ensures.0, left_narrow c.before), omega (arith, c.unpack-takes.ensures.0, takes_narrow c.before))

pub span_of-high-requires : goal.span_of-high-requires
span_of-high-requires c = (omega (arith, c.unpack-left.ensures.1, left_narrow c.before.before), omega (arith, c.unpack-takes.ensures.1, takes_narrow c.before.before))

pub overflow_add-spans : goal.overflow_add-spans
overflow_add-spans c = omega (arith, c.unpack-full.ensures.1, full_narrow c.before.before.before.before.before.before.before.before.before.before.before.before.before.before.before.before)

pub fire_box-requires : goal.fire_box-requires
fire_box-requires c = let full = full_narrow c.before.before.before.before.before.before.before.before.before.before.before.before.before.before.before.before.before.before in record {
  valid = c.requires.valid;
  lent = c.requires.lent;
  state_bound = c.requires.state_bound;
  last_lt_max_stocks = (
    omega (arith, c.span_of-low.ensures.1, c.unpack-full.ensures.0),
    omega (arith, c.span_of-high.ensures.1),
    omega (arith, c.unpack-full.ensures.1),
    c.span_of-high.ensures.0,
  );
}

pub returns : goal.returns
returns c = let takes = ap (packed_in c.args.ways.now) c.taken.ensures.0 in
    let gives = ap (packed_in c.args.ways.now) c.given.ensures.0 in
    let boxed = to_boxed c.args.block.now c.requires.valid.0 c.args.fire.row c.requires.valid.1.playable c.args.ways.now c.requires.valid.1.listed c.args.board.now c.args.fire.state c.args.fire.index c.args.fire.place c.requires.state_bound.0 c.requires.state_bound.2 c.span_of-low.result c.span_of-high.result (c.unpack-full.result.high + 1)
    (λ z comes. c.span_of-low.ensures.2 z (comes_to c.unpack-full.ensures.0 c.unpack-left.ensures.0 (c.unpack-takes.ensures.0 ∙ ap (λ (w : ℕ). w % 32) takes) (c.unpack-gives.ensures.0 ∙ ap (λ (w : ℕ). w % 32) gives) comes))
    (λ z comes. c.span_of-high.ensures.2 z (comes_to c.unpack-full.ensures.1 c.unpack-left.ensures.1 (c.unpack-takes.ensures.1 ∙ ap (λ (w : ℕ). w / 32) takes) (c.unpack-gives.ensures.1 ∙ ap (λ (w : ℕ). w / 32) gives) comes))
    (omega (arith, c.unpack-full.ensures.1)) in
    (c.fire_box.ensures.0, λ x place to. c.fire_box.ensures.1 x (boxed x place to) place to)
