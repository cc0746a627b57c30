-- `fire_move` goes back to the one place of a move that gives nothing, and through the spans for any other.
use mathlib.Core.Path.{◌≡◌, sym, ◌∙◌, ap, subst}
use Prim.Native.Nat.{ℕ, ◌+◌, ◌<◌}
use native.Mathlib.Omega.{arith}
use Rattle.ways.proofs.Leading.{few, listed_small}
use Rattle.stages.specs.Stages.{rank_of, To, Past}
use Rattle.stages.proofs.Carrying.{to_spent}
use Rattle.stages.proofs.Evolving.{evolved_none}
use Rattle.stages.proofs.fire.fire_move.Goals as goal
use Rattle.stages.proofs.fire.fire_move.Lts as lts
use Rattle.stages.proofs.fire.fire_move.Reads as reads
use Rattle.stages.proofs.fire.fire_move.Tie as tie

abbrev At-After-taken : Type 0
At-After-taken = lts.After-taken tie.the-claims reads.Pre reads.Post tie.handed_clauses

abbrev At-Start : Type 0
At-Start = lts.Start tie.the-claims reads.Pre reads.Post tie.handed_clauses

small : (start : At-Start) → (start.args.fire.state < 24) × (start.args.fire.index < 64)
small start = listed_small start.args.block.now start.requires.valid.0 start.args.fire.row start.args.ways.now start.requires.valid.1.listed start.args.fire.state start.args.fire.index start.requires.state_bound.0 start.requires.state_bound.2

pub given-requires : goal.given-requires
given-requires c = (c.requires.valid.1.listed.long, (small c.before.before.before.before.before.before).0, (small c.before.before.before.before.before.before).1)

pub fire_spans-requires : goal.fire_spans-requires
fire_spans-requires c = record { valid = c.requires.valid; lent = c.requires.lent; state_bound = c.requires.state_bound; place_lt_places = c.requires.place_lt_places }

pub returns-then-given-ne0 : goal.returns-then-given-ne0
returns-then-given-ne0 c = c.fire_spans.ensures

pub taken-requires : goal.taken-requires
taken-requires c = (c.requires.valid.1.listed.long, (small c.before.before.before.before.before.before.before.before).0, (small c.before.before.before.before.before.before.before.before).1)

-- a place from which the move lands there is that of the stocks with what it takes
from : (c : At-After-taken) (x : ℕ) → x < c.args.fire.row.places → To c.args.block.now c.args.fire.row c.args.ways.now c.args.board.now c.args.fire.state x c.args.fire.index c.args.fire.place → x ≡ c.args.fire.place + c.taken.result
from c x place to =
    to_spent c.args.block.now c.requires.valid.0 c.args.fire.row c.requires.valid.1.playable c.args.ways.now c.requires.valid.1.listed c.args.board.now c.args.fire.state c.args.fire.index c.args.fire.place c.requires.state_bound.0 (sym c.given.ensures.0 ∙ c.if-given-ne0.false) x place to
    ∙ ap (λ (o : ℕ). c.args.fire.place + o) (sym c.taken.ensures.0)

pub overflow_add-x : goal.overflow_add-x
overflow_add-x c = omega (arith, c.taken.ensures.1, c.requires.place_lt_places, few c.args.block.now c.requires.valid.0 c.args.fire.row c.requires.valid.1.playable)

pub touch-requires : goal.touch-requires
touch-requires c = record { valid = c.requires.valid; lent = c.requires.lent; state_bound = c.requires.state_bound; x_lt_places = c.if-x-fire.true }

pub returns-then-x-fire : goal.returns-then-x-fire
returns-then-x-fire c = (
  c.touch.ensures.0,
  λ x place to.
      let e = from c.before.before.before.before.before.before.before.before.before.before.before x place to in
      subst (λ (z : ℕ). Past c.args.block.now c.args.fire.row c.args.ways.now c.args.board.now c.args.fire.most c.args.fire.index (rank_of c.args.fire.row c.touch.new.ranks c.args.fire.state z)) (sym e)
      (c.touch.ensures.1 (subst (λ (z : ℕ). To c.args.block.now c.args.fire.row c.args.ways.now c.args.board.now c.args.fire.state z c.args.fire.index c.args.fire.place) e to)),
)

pub returns-else-x-fire : goal.returns-else-x-fire
returns-else-x-fire c = (
  evolved_none c.args.block.now c.args.fire.row c.args.ways.now c.args.board.now c.args.fire.most c.args.fire.safe c.args.fire.stage c.args.ranks.now c.args.flags.now,
  λ x place to. absurd (omega (arith, from c.before.before.before.before x place to, c.if-x-fire.false)),
)
