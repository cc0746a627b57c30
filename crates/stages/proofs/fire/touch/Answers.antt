-- `touch` looks whether the position waits for the move, and whether the move leads from there; then it ranks the position, or waits for another.
--
use mathlib.Core.Bool.{Bool, true, false}
use mathlib.Core.Path.{◌≡◌, sym, subst}
use Prim.Native.Nat.{ℕ, ◌+◌, ◌*◌, ◌<◌}
use native.Mathlib.Omega.{arith}
use Rattle.block.proofs.Decide as D
use Rattle.game.proofs.Numbers.Decide.{lt?}
use Rattle.ways.proofs.Leading.{number_inside, listed_small}
use Rattle.stages.specs.Stages.{hold, rank_of, Waiting, To, FiresAt, Earned, Past}
use Rattle.stages.proofs.Evolving.{evolved_none}
use Rattle.stages.proofs.fire.touch.Goals as goal
use Rattle.stages.proofs.fire.touch.Lts as lts
use Rattle.stages.proofs.fire.touch.Reads as reads
use Rattle.stages.proofs.fire.touch.Tie as tie

abbrev At-Else-not-leads : Type 0
At-Else-not-leads = lts.Else2 tie.the-claims reads.Pre reads.Post tie.handed_clauses

abbrev At-Else-not-waits_for : Type 0
At-Else-not-waits_for = lts.Else1 tie.the-claims reads.Pre reads.Post tie.handed_clauses

abbrev At-Start : Type 0
At-Start = lts.Start tie.the-claims reads.Pre reads.Post tie.handed_clauses

-- what is known at the start
module _ (start : At-Start) where
  inside : start.args.fire.state * start.args.fire.row.places + start.args.x < 6144
  inside = number_inside start.args.block.now start.requires.valid.0 start.args.fire.row start.requires.valid.1.playable start.args.fire.state start.args.x start.requires.state_bound.0 start.requires.x_lt_places

  small : start.args.fire.index < 64
  small = (listed_small start.args.block.now start.requires.valid.0 start.args.fire.row start.args.ways.now start.requires.valid.1.listed start.args.fire.state start.args.fire.index start.requires.state_bound.0 start.requires.state_bound.2).1

  -- a word that does not wait for the move is past it
  past : (r : ℕ) (most : Bool) → (Waiting most start.args.fire.index r → ⊥) → Past start.args.block.now start.args.fire.row start.args.ways.now start.args.board.now most start.args.fire.index r
  past r true quiet = go (lt? r hold)
    where
      go : Dec (r < hold) → r < hold
      go (yes low) = low
      go (no ne) = absurd (quiet (omega arith))
  past r false quiet = quiet

  -- the side is as told
  fires_by : (most : Bool) → start.args.fire.most ≡ most → FiresAt start.args.block.now start.args.fire.row start.args.ways.now start.args.board.now most start.args.fire.state start.args.fire.index start.args.fire.place
  fires_by most side = subst (λ (t : Bool). FiresAt start.args.block.now start.args.fire.row start.args.ways.now start.args.board.now t start.args.fire.state start.args.fire.index start.args.fire.place) side start.requires.state_bound.3

  past_by : (r : ℕ) (most : Bool) → start.args.fire.most ≡ most → Past start.args.block.now start.args.fire.row start.args.ways.now start.args.board.now most start.args.fire.index r → Past start.args.block.now start.args.fire.row start.args.ways.now start.args.board.now start.args.fire.most start.args.fire.index r
  past_by r most side = subst (λ (t : Bool). Past start.args.block.now start.args.fire.row start.args.ways.now start.args.board.now t start.args.fire.index r) (sym side)

pub overflow_mul-fire : goal.overflow_mul-fire
overflow_mul-fire c = omega (arith, inside c.before.before.before.before.before.before.before)

pub overflow_add-fire : goal.overflow_add-fire
overflow_add-fire c = omega (arith, inside c.before.before.before.before.before.before.before)

pub rank_at-r-requires : goal.rank_at-r-requires
rank_at-r-requires c = omega (arith, inside c.before.before.before.before.before.before.before, c.requires.lent.ranks_long)

pub waits_for-requires : goal.waits_for-requires
waits_for-requires c = small c.before.before.before.before.before.before.before.before

pub returns-then-not-waits_for : goal.returns-then-not-waits_for
returns-then-not-waits_for c = let quiet = D.falsity c.waits_for.ensures c.if-not-waits_for.true in (
  evolved_none c.args.block.now c.args.fire.row c.args.ways.now c.args.board.now c.args.fire.most c.args.fire.safe c.args.fire.stage c.args.ranks.now c.args.flags.now,
  λ _. past c.before.before.before.before.before.before.before.before.before.before (rank_of c.args.fire.row c.args.ranks.now c.args.fire.state c.args.x) c.args.fire.most (λ h. quiet (subst (Waiting c.args.fire.most c.args.fire.index) (sym c.rank_at-r.ensures.0) h)),
)

-- the word waits for the move
module _ (c : At-Else-not-waits_for) where
  waiting : (most : Bool) → c.args.fire.most ≡ most → Waiting most c.args.fire.index (rank_of c.args.fire.row c.args.ranks.now c.args.fire.state c.args.x)
  waiting most side =
      subst (λ (t : Bool). Waiting t c.args.fire.index (rank_of c.args.fire.row c.args.ranks.now c.args.fire.state c.args.x)) side
      (subst (Waiting c.args.fire.most c.args.fire.index) c.rank_at-r.ensures.0 (D.truth c.waits_for.ensures c.if-not-waits_for.false))

pub leads-requires : goal.leads-requires
leads-requires c = record { valid = c.requires.valid.0; playable = (c.requires.valid.1.playable, c.requires.valid.1.listed); state_bound = (c.requires.state_bound.0, c.requires.x_lt_places, c.requires.state_bound.2) }

pub returns-then-not-leads : goal.returns-then-not-leads
returns-then-not-leads c = (
  evolved_none c.args.block.now c.args.fire.row c.args.ways.now c.args.board.now c.args.fire.most c.args.fire.safe c.args.fire.stage c.args.ranks.now c.args.flags.now,
  λ to. absurd (D.falsity c.leads.ensures c.if-not-leads.true to),
)

-- and the move leads to its place
to : (c : At-Else-not-leads) → To c.args.block.now c.args.fire.row c.args.ways.now c.args.board.now c.args.fire.state c.args.x c.args.fire.index c.args.fire.place
to c = D.truth c.leads.ensures c.if-not-leads.false

pub give-requires : goal.give-requires
give-requires c = let earned : Earned c.args.block.now c.args.fire.row c.args.ways.now c.args.board.now true c.args.fire.state c.args.x = (c.args.fire.index, c.args.fire.place, to c.before.before.before.before, fires_by c.before.before.before.before.before.before.before.before.before.before.before.before.before.before.before true c.if-fire.true) in
    record { valid = c.requires.valid; lent = c.requires.lent; state_bound = (c.requires.state_bound.0, c.requires.x_lt_places, c.requires.state_bound.1, waiting c.before.before.before.before.before.before true c.if-fire.true, subst (λ (t : Bool). Earned c.args.block.now c.args.fire.row c.args.ways.now c.args.board.now t c.args.fire.state c.args.x) (sym c.if-fire.true) earned) }

pub returns-then-fire : goal.returns-then-fire
returns-then-fire c = (c.give.ensures.0, λ _. past_by c.before.before.before.before.before.before.before.before.before.before.before.before.before.before.before.before.before.before.before.before _ true c.if-fire.true (omega (arith, c.give.ensures.1, c.requires.lent.small)))

pub pass-requires : goal.pass-requires
pass-requires c = record { valid = c.requires.valid; lent = (c.requires.lent, c.if-fire.false); state_bound = (c.requires.state_bound.0, c.requires.x_lt_places, c.requires.state_bound.1, to c.before.before.before.before, fires_by c.before.before.before.before.before.before.before.before.before.before.before.before.before.before.before false c.if-fire.false); x_value = waiting c.before.before.before.before.before.before false c.if-fire.false }

pub returns : goal.returns
returns c = (c.pass.ensures.0, λ _. past_by c.before.before.before.before.before.before.before.before.before.before.before.before.before.before.before.before.before.before.before.before _ false c.if-fire.false c.pass.ensures.1)
