-- `mark_move` flags each place whose stocks the move can leave as those of x.
use mathlib.Core.Bool.{true}
use mathlib.Core.Path.{refl, ◌∙◌, ap}
use Prim.Native.Nat.{ℕ, suc, ◌+◌, ◌*◌, ◌-◌, ◌/◌, ◌%◌, ◌≤◌, ◌<◌}
use native.Mathlib.Omega.{arith}
use Rattle.game.specs.Model.{arena_of}
use Rattle.ways.specs.Back.{Leads, InBox}
use Rattle.ways.specs.Lines.{packed_in, number_in, taken_in}
use Rattle.ways.specs.Packed.{Narrow}
use Rattle.ways.proofs.Coming.{leads_comes}
use Rattle.ways.proofs.Leading.{few, taken_small, place_narrow}
use Rattle.ways.proofs.Marking.{marked_narrow}
use Rattle.ways.proofs.Packing.{comes_to}
use Rattle.ways.proofs.back.mark_move.Goals as goal
use Rattle.ways.proofs.back.mark_move.Lts as lts
use Rattle.ways.proofs.back.mark_move.Reads as reads
use Rattle.ways.proofs.back.mark_move.Tie as tie

abbrev At-After-unpack-gives : Type 0
At-After-unpack-gives = lts.After-unpack4 tie.the-claims reads.Pre reads.Post tie.handed_clauses

abbrev At-Start : Type 0
At-Start = lts.Start tie.the-claims reads.Pre reads.Post tie.handed_clauses

-- what is known at the start
module _ (start : At-Start) where
  state_small : start.args.s < 24
  state_small = omega (arith, start.requires.s_bound.0, start.requires.valid.sized.states_fit)

  move_small : start.args.k < 64
  move_small = omega (arith, start.requires.s_bound.1, ((start.requires.playable.1.states start.args.s start.requires.s_bound.0).lines true).few)

  few_places : start.args.row.places ≤ 256
  few_places = few start.args.block.now start.requires.valid start.args.row start.requires.playable.0

  narrow : (y : ℕ) → y < start.args.row.places → Narrow (packed_in start.args.ways.now y)
  narrow y small = place_narrow start.args.block.now start.requires.valid start.args.row start.requires.playable.0 start.args.ways.now start.requires.playable.1.packed start.args.s y start.requires.s_bound.0 (omega (arith, start.requires.playable.0.places_are))

  takes_small : taken_in start.args.ways.now start.args.s start.args.k < start.args.row.places
  takes_small =
      omega (
        arith,
        taken_small start.args.block.now start.requires.valid start.args.row start.requires.playable.0 start.args.ways.now start.requires.playable.1 start.args.s start.args.x start.args.k (taken_in start.args.ways.now start.args.s start.args.k) start.requires.s_bound.0 start.requires.s_bound.2 start.requires.s_bound.1 refl,
        start.requires.playable.0.places_are,
      )

  full_narrow : Narrow (packed_in start.args.ways.now (start.args.row.places - 1))
  full_narrow = narrow (start.args.row.places - 1) (omega arith)

pub overflow_sub-row : goal.overflow_sub-row
overflow_sub-row c = omega (arith, c.requires.s_bound.2)

pub unpack-full-requires : goal.unpack-full-requires
unpack-full-requires c = (c.requires.playable.1.long, omega (arith, few_places c.before.before.before.before.before, c.requires.s_bound.2))

pub unpack-left-requires : goal.unpack-left-requires
unpack-left-requires c = (c.requires.playable.1.long, omega (arith, few_places c.before.before.before.before.before.before, c.requires.s_bound.2))

pub taken-requires : goal.taken-requires
taken-requires c = (c.requires.playable.1.long, state_small c.before.before.before.before.before.before.before, move_small c.before.before.before.before.before.before.before)

pub unpack-takes-requires : goal.unpack-takes-requires
unpack-takes-requires c = (c.requires.playable.1.long, c.taken.ensures.1)

pub given-requires : goal.given-requires
given-requires c = (c.requires.playable.1.long, state_small c.before.before.before.before.before.before.before.before.before, move_small c.before.before.before.before.before.before.before.before.before)

pub unpack-gives-requires : goal.unpack-gives-requires
unpack-gives-requires c = (c.requires.playable.1.long, c.given.ensures.1)

-- the digits are stocks
module _ (c : At-After-unpack-gives) where
  left_narrow : Narrow (packed_in c.args.ways.now c.args.x)
  left_narrow = narrow c.before.before.before.before.before.before.before.before.before.before c.args.x c.requires.s_bound.2

  takes_narrow : Narrow (packed_in c.args.ways.now c.taken.result)
  takes_narrow = narrow c.before.before.before.before.before.before.before.before.before.before c.taken.result (omega (arith, c.taken.ensures.0, takes_small c.before.before.before.before.before.before.before.before.before.before))

pub span_of-low-requires : goal.span_of-low-requires
span_of-low-requires c = (omega (arith, c.unpack-left.ensures.0, left_narrow c.before), omega (arith, c.unpack-takes.ensures.0, takes_narrow c.before))

pub span_of-high-requires : goal.span_of-high-requires
span_of-high-requires c = (omega (arith, c.unpack-left.ensures.1, left_narrow c.before.before), omega (arith, c.unpack-takes.ensures.1, takes_narrow c.before.before))

pub overflow_add-full : goal.overflow_add-full
overflow_add-full c = omega (arith, c.unpack-full.ensures.1, full_narrow c.before.before.before.before.before.before.before.before.before.before.before.before.before.before.before)

pub mark_box-requires : goal.mark_box-requires
mark_box-requires c = let full = full_narrow c.before.before.before.before.before.before.before.before.before.before.before.before.before.before.before in (
  omega (arith, c.span_of-low.ensures.1, c.unpack-full.ensures.0),
  omega (arith, c.span_of-high.ensures.1),
  omega (arith, c.unpack-full.ensures.1),
  c.requires.playable.2,
  c.span_of-high.ensures.0,
)

pub returns : goal.returns
returns c = marked_narrow boxed c.mark_box.ensures
  where
    boxed : (z : ℕ) → Leads (arena_of c.args.block.now c.args.row.index) c.args.s z (number_in c.args.ways.now c.args.s true c.args.k) c.args.x → InBox c.span_of-low.result c.span_of-high.result (c.unpack-full.result.high + 1) z
    boxed z led =
        let (low, high, e, low_comes, high-comes) = leads_comes c.args.block.now c.requires.valid c.args.row c.requires.playable.0 c.args.ways.now c.requires.playable.1 c.args.s c.args.k c.requires.s_bound.0 c.requires.s_bound.1 z c.args.x led in
        let takes = ap (packed_in c.args.ways.now) c.taken.ensures.0 in
        let gives = ap (packed_in c.args.ways.now) c.given.ensures.0 in (
          low,
          high,
          e ∙ ap (λ (w : ℕ). low * w + high) {x = suc (packed_in c.args.ways.now (c.args.row.places - 1) / 32)} {y = c.unpack-full.result.high + 1} (omega (arith, c.unpack-full.ensures.1)),
          c.span_of-low.ensures.2 low (comes_to c.unpack-full.ensures.0 c.unpack-left.ensures.0 (c.unpack-takes.ensures.0 ∙ ap (λ (w : ℕ). w % 32) takes) (c.unpack-gives.ensures.0 ∙ ap (λ (w : ℕ). w % 32) gives) low_comes),
          c.span_of-high.ensures.2 high (comes_to c.unpack-full.ensures.1 c.unpack-left.ensures.1 (c.unpack-takes.ensures.1 ∙ ap (λ (w : ℕ). w / 32) takes) (c.unpack-gives.ensures.1 ∙ ap (λ (w : ℕ). w / 32) gives) high-comes),
        )
