-- `move_at` tries the listed moves from the smallest on until one is good.
use mathlib.Core.Bool.{true}
use mathlib.Core.Path.{◌≡◌, sym, ◌∙◌, ap, subst}
use Prim.Native.Nat.{◌+◌, ◌*◌, ◌<◌}
use native.Mathlib.Omega.{arith}
use Rattle.block.proofs.Decide as D
use Rattle.game.specs.Position.{Position, IsPosition, number}
use Rattle.game.specs.Model.{arena_of}
use Rattle.turns.specs.Buffers.{rank_in}
use Rattle.rankings.specs.Kinds.{kind_of}
use Rattle.ways.specs.Lines.{count_in, number_in}
use Rattle.ways.specs.Places.{PlacedAt}
use Rattle.ways.proofs.Leading.{number_inside}
use Rattle.choice.specs.Choices.{GoodBy}
use Rattle.choice.specs.Tables.{MoveFor}
use Rattle.choice.proofs.Moving.{spot_placed, move_lost, move_met, first_found, some_listed}
use Rattle.choice.proofs.Searching.{joint_number}
use Rattle.game.proofs.Numbers.Decide.{none_more}
use Rattle.choice.proofs.moves.move_at.Goals as goal
use Rattle.choice.proofs.moves.move_at.Lts as lts
use Rattle.choice.proofs.moves.move_at.Reads as reads
use Rattle.choice.proofs.moves.move_at.Tie as tie

abbrev At-After-rank_at-own : Type 0
At-After-rank_at-own = lts.After-rank_at tie.the-claims reads.Pre reads.Post goal.the-invariant-loop-k goal.the-decreases-loop-k tie.handed_clauses

abbrev At-In-loop-k : Type 0
At-In-loop-k = lts.In-loop tie.the-claims reads.Pre reads.Post goal.the-invariant-loop-k goal.the-decreases-loop-k tie.handed_clauses

abbrev At-Start : Type 0
At-Start = lts.Start tie.the-claims reads.Pre reads.Post goal.the-invariant-loop-k goal.the-decreases-loop-k tie.handed_clauses

module _ (start : At-Start) where
  inside : start.args.spot.state * start.args.row.places + start.args.spot.place < 6144
  inside = number_inside start.args.block.now start.requires.valid start.args.row start.requires.sought.0.playable start.args.spot.state start.args.spot.place start.requires.state_bound.0 start.requires.state_bound.1

pub overflow_mul-spot : goal.overflow_mul-spot
overflow_mul-spot c = record { fits = omega (arith, inside c.before.before.before.before.before.before) }

pub overflow_add-spot : goal.overflow_add-spot
overflow_add-spot c = record { fits = omega (arith, inside c.before.before.before.before.before.before.before) }

pub rank_at-own-requires : goal.rank_at-own-requires
rank_at-own-requires c = omega (arith, inside c.before.before.before.before.before.before.before, c.requires.sought.2)

-- a position with the number that is asked for: its place, and its rank
module _ (c : At-After-rank_at-own) (p : Position) (fits : IsPosition (arena_of c.args.block.now c.args.row.index) p)
    (is : number (arena_of c.args.block.now c.args.row.index) p ≡ c.args.spot.state * c.args.row.places + c.args.spot.place) where
  placed : PlacedAt (arena_of c.args.block.now c.args.row.index) c.args.spot.state c.args.spot.place p
  placed = spot_placed c.args.block.now c.args.row c.requires.sought.0.playable c.args.spot.state c.args.spot.place c.requires.state_bound.0 c.requires.state_bound.1 p fits is

  own : rank_in c.args.ranks.now (number (arena_of c.args.block.now c.args.row.index) p) ≡ c.rank_at-own.result
  own = ap (rank_in c.args.ranks.now) is ∙ sym c.rank_at-own.ensures.0

pub returns-then-not-claims : goal.returns-then-not-claims
returns-then-not-claims c right ranked p fits is = move_lost c.args.block.now c.requires.valid c.args.row (kind_of c.args.goal) c.requires.sought.0 c.args.ranks.now c.args.spot.state c.args.spot.place c.rank_at-own.result p (placed c.before.before.before p fits is) (own c.before.before.before p fits is) right
    (D.falsity c.claims.ensures c.if-not-claims.true)

pub returns-then-own-eq0 : goal.returns-then-own-eq0
returns-then-own-eq0 c right ranked p fits is = move_met c.args.block.now c.requires.valid c.args.row (kind_of c.args.goal) c.requires.sought.0 c.args.ranks.now c.args.spot.state c.args.spot.place c.rank_at-own.result p (placed c.before.before.before.before p fits is) (own c.before.before.before.before p fits is) right
    (D.truth c.claims.ensures c.if-not-claims.false) c.if-own-eq0.true

state_small : (start : At-Start) → start.args.spot.state < 24
state_small start = omega (arith, start.requires.state_bound.0, start.requires.valid.sized.states_fit)

pub count-n-requires : goal.count-n-requires
count-n-requires c = (c.requires.sought.1.long, state_small c.before.before.before.before.before.before.before.before.before.before.before)

pub loop-k-init : goal.loop-k-init
loop-k-init c = (omega arith, λ p placed j less. absurd (omega arith))

-- the move that is tried is listed
within : (c : At-In-loop-k) → c.loop-k.k < count_in c.args.ways.now c.args.spot.state true
within c = omega (arith, c.loop-k-test.true, c.count-n.ensures)

pub is_good-requires : goal.is_good-requires
is_good-requires c = record { valid = c.requires.valid; sought = c.requires.sought; state_bound = (c.requires.state_bound.0, c.requires.state_bound.1, within c.before) }

pub number-requires : goal.number-requires
number-requires c = (c.requires.sought.1.long, state_small c.before.before.before.before.before.before.before.before.before.before.before.before.before.before.before.before, omega (arith, within c.before.before.before, ((c.requires.sought.1.states c.args.spot.state c.requires.state_bound.0).lines true).few))

pub overflow_cast-result : goal.overflow_cast-result
overflow_cast-result c = let way = ((c.requires.sought.1.states c.args.spot.state c.requires.state_bound.0).lines true).only c.loop-k.k (within c.before.before.before.before) in
    record { fits = omega (arith, c.number.ensures, joint_number c.args.block.now c.requires.valid (number_in c.args.ways.now c.args.spot.state true c.loop-k.k) way.0.0.0) }

pub returns-then-is_good : goal.returns-then-is_good
returns-then-is_good c right ranked p fits is = let here = placed c.before.before.before.before.before.before.before.before.before.before p fits is in
    subst (MoveFor c.args.block.now c.args.row.index c.args.row.set right c.args.ranks.now p) (sym c.number.ensures)
    (first_found c.args.block.now c.requires.valid c.args.row (kind_of c.args.goal) c.requires.sought.0 c.args.ranks.now c.args.spot.state c.args.spot.place c.rank_at-own.result p here (own c.before.before.before.before.before.before.before.before.before.before p fits is) right
    (D.truth c.claims.ensures c.if-not-claims.false) c.if-own-eq0.false c.args.ways.now (c.requires.sought.1.states c.args.spot.state c.requires.state_bound.0)
    c.loop-k.k (within c.before.before.before.before) (c.loop-k.invariant.1 p here) (D.truth (c.is_good.ensures p here) c.if-is_good.true))

pub overflow_step-k : goal.overflow_step-k
overflow_step-k c = omega arith

pub loop-k-smaller : goal.loop-k-smaller
loop-k-smaller c = omega (arith, c.loop-k-test.true)

pub loop-k-preserved : goal.loop-k-preserved
loop-k-preserved c = (
  omega (arith, c.loop-k-test.true),
  λ p here. none_more (λ j. GoodBy c.args.block.now c.args.row c.args.ranks.now (kind_of c.args.goal) c.rank_at-own.result p (number_in c.args.ways.now c.args.spot.state true j)) c.loop-k.k (c.loop-k.invariant.1 p here) (D.falsity (c.is_good.ensures p here) c.if-is_good.false),
)

pub returns : goal.returns
returns c right ranked p fits is = let here = placed c.before.before.before.before.before.before.before p fits is in
    absurd (some_listed c.args.block.now c.requires.valid c.args.row (kind_of c.args.goal) c.requires.sought.0 c.args.ranks.now c.args.spot.state c.args.spot.place c.rank_at-own.result p here (own c.before.before.before.before.before.before.before p fits is) right
    (D.truth c.claims.ensures c.if-not-claims.false) c.if-own-eq0.false c.args.ways.now (c.requires.sought.1.states c.args.spot.state c.requires.state_bound.0) ranked
    (λ j small. c.loop-k.invariant.1 p here j (omega (arith, c.loop-k-test.false, c.count-n.ensures))))
