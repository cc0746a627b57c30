-- `settle_at` leaves a state alone that is not safe and a rank that cannot fall, and lowers any other to one more than its value.
use mathlib.Core.Path.{◌≡◌, ap}
use Prim.Native.Nat.{ℕ, ◌+◌, ◌*◌, ◌<◌}
use native.Mathlib.Omega.{arith}
use Rattle.block.proofs.Decide as D
use Rattle.game.specs.Inner.Stocks.{stock_places}
use Rattle.game.specs.Model.{arena_of}
use Rattle.game.proofs.Blocks.Passing.{valid_proper}
use Rattle.ways.proofs.Leading.{number_inside}
use Rattle.sweeps.specs.Sweeps.{RestsAt}
use Rattle.sweeps.proofs.Lowering.{low_rests, place_swept}
use Rattle.sweeps.proofs.Sweeping.{swept_nothing}
use Rattle.sweeps.proofs.sweep.settle_at.Goals as goal
use Rattle.sweeps.proofs.sweep.settle_at.Lts as lts
use Rattle.sweeps.proofs.sweep.settle_at.Reads as reads
use Rattle.sweeps.proofs.sweep.settle_at.Tie as tie

abbrev At-Start : Type 0
At-Start = lts.Start tie.the-claims reads.Pre reads.Post tie.handed_clauses

pub has_bit-requires : goal.has_bit-requires
has_bit-requires c = omega (arith, c.requires.into_value.1, c.requires.valid.sized.states_fit)

pub returns-then-not-has_bit : goal.returns-then-not-has_bit
returns-then-not-has_bit c = let G = arena_of c.args.block.now c.args.row.index in
    let unsafe = D.falsity c.has_bit.ensures c.if-not-has_bit.true in
    swept_nothing G c.args.side.most c.args.side.safe c.args.spot.place (RestsAt G c.args.side.most c.args.side.safe c.args.spot.place c.args.spot.state) c.args.ranks.now
    (λ p placed in-safe. absurd (unsafe in-safe))

-- the rank stands within the buffer
last : (start : At-Start) → start.args.spot.state * start.args.row.places + start.args.spot.place < 6144
last start = number_inside start.args.block.now start.requires.valid start.args.row start.requires.playable.0 start.args.spot.state start.args.spot.place start.requires.into_value.1
    start.requires.into_value.2

pub overflow_mul-p : goal.overflow_mul-p
overflow_mul-p c = record { fits = omega (arith, last c.before.before.before.before.before.before.before.before) }

pub overflow_add-p : goal.overflow_add-p
overflow_add-p c = record { fits = omega (arith, last c.before.before.before.before.before.before.before.before.before) }

pub rank_at-rank-requires : goal.rank_at-rank-requires
rank_at-rank-requires c = omega (arith, last c.before.before.before.before.before.before.before.before.before, c.requires.playable.2)

-- the position's number
here : (start : At-Start) → start.args.spot.state * start.args.row.places + start.args.spot.place ≡ start.args.spot.state * stock_places
    (arena_of start.args.block.now start.args.row.index) + start.args.spot.place
here start = ap (λ (k : ℕ). start.args.spot.state * k + start.args.spot.place) start.requires.playable.0.places_are

pub returns-then-rank-le1 : goal.returns-then-rank-le1
returns-then-rank-le1 c = let G = arena_of c.args.block.now c.args.row.index in
    swept_nothing G c.args.side.most c.args.side.safe c.args.spot.place (RestsAt G c.args.side.most c.args.side.safe c.args.spot.place c.args.spot.state) c.args.ranks.now
    (low_rests G (valid_proper c.args.block.now c.requires.valid) c.args.side.most c.args.side.safe c.args.spot.state c.args.spot.place
    (c.args.spot.state * c.args.row.places + c.args.spot.place) c.args.ranks.now (here c.before.before.before.before.before.before.before.before.before.before.before)
    (omega (arith, c.rank_at-rank.ensures, c.if-rank-le1.true)))

pub value_at-v-requires : goal.value_at-v-requires
value_at-v-requires c = record {
  valid = c.requires.valid;
  playable = c.requires.playable;
  into_value = c.requires.into_value;
  rank_value = (c.rank_at-rank.ensures.0, omega (arith, c.if-rank-le1.false), c.rank_at-rank.ensures.1);
}

pub overflow_add-v : goal.overflow_add-v
overflow_add-v c = record { fits = omega (arith, c.value_at-v.ensures.1) }

pub lower-requires : goal.lower-requires
lower-requires c = omega (arith, last c.before.before.before.before.before.before.before.before.before.before.before.before.before, c.requires.playable.2)

pub returns : goal.returns
returns c = place_swept (arena_of c.args.block.now c.args.row.index) (valid_proper c.args.block.now c.requires.valid) c.args.side.most c.args.side.safe c.args.spot.state
    c.args.spot.place (c.args.spot.state * c.args.row.places + c.args.spot.place) c.value_at-v.result c.args.ranks.now
    c.requires.into_value.1 (omega (arith, c.requires.into_value.2, c.requires.playable.0.places_are)) (D.truth c.has_bit.ensures c.if-not-has_bit.false)
    (here c.before.before.before.before.before.before.before.before.before.before.before.before.before.before.before.before) c.value_at-v.ensures.0
    c.lower.result c.lower.new.ranks c.lower.ensures
