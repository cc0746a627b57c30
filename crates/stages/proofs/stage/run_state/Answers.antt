-- `run_state` carries back one move after another, where it serves newly; nothing where no state that it leads to is newly won.
use mathlib.Core.List.{List}
use mathlib.Core.Path.{sym, subst, subst₂}
use Prim.Native.Nat.{ℕ}
use native.Mathlib.Omega.{arith}
use mathlib.Core.Bool.{false}
use Rattle.block.specs.Inner.Tests.{Decides}
use Rattle.block.proofs.Decide as D
use Rattle.ways.proofs.Leading.{few, listed_small}
use Rattle.boards.specs.Boards.{to_in, won_in, Fires, Newly}
use Rattle.stages.specs.Stages.{Evolved, DoneWith}
use Rattle.stages.proofs.Evolving.{evolved_none, evolved_then, lent_still}
use Rattle.stages.proofs.Fronts.{state_quiet, state_more}
use Rattle.stages.proofs.stage.run_state.Goals as goal
use Rattle.stages.proofs.stage.run_state.Goals.{then-newly, else-newly}
use Rattle.stages.proofs.stage.run_state.Lts as lts
use Rattle.stages.proofs.stage.run_state.Reads as reads
use Rattle.stages.proofs.stage.run_state.Tie as tie

abbrev At-After-newly : Type 0
At-After-newly = lts.After-newly tie.the-claims reads.Pre reads.Post goal.the-invariant-loop-k goal.the-decreases-loop-k tie.handed_clauses

pub won_at-won-requires : goal.won_at-won-requires
won_at-won-requires c = (c.requires.valid.1.long, omega (arith, c.requires.state_bound.1, few c.args.block.now c.requires.valid.0 c.args.attack.row c.requires.valid.1.playable))

pub reach_at-requires : goal.reach_at-requires
reach_at-requires c = (c.requires.valid.1.long, omega (arith, c.requires.state_bound.0, c.requires.valid.0.sized.states_fit))

pub returns-then-not-fires : goal.returns-then-not-fires
returns-then-not-fires c = let quiet = D.falsity c.fires.ensures c.if-not-fires.true in (
  evolved_none c.args.block.now c.args.attack.row c.args.ways.now c.args.board.now c.args.attack.most c.args.attack.safe c.args.attack.stage c.args.ranks.now c.args.flags.now,
  state_quiet c.args.block.now c.args.attack.row c.args.ways.now c.args.board.now c.args.attack.most c.requires.valid.1 c.args.ranks.now c.args.front.place c.args.front.fresh c.args.front.state c.requires.state_bound.0
      (λ h. quiet (subst (λ (w : ℕ). Fires false w c.args.front.fresh) (sym c.reach_at.ensures.0) h)),
)

pub count-n-requires : goal.count-n-requires
count-n-requires c = (c.requires.valid.1.listed.long, omega (arith, c.requires.state_bound.0, c.requires.valid.0.sized.states_fit))

pub loop-k-init : goal.loop-k-init
loop-k-init c = let none = evolved_none c.args.block.now c.args.attack.row c.args.ways.now c.args.board.now c.args.attack.most c.args.attack.safe c.args.attack.stage c.args.ranks.now c.args.flags.now in
    (omega arith, none, λ j l. absurd (omega arith))

pub to_at-to-requires : goal.to_at-to-requires
to_at-to-requires c = let small = listed_small c.args.block.now c.requires.valid.0 c.args.attack.row c.args.ways.now c.requires.valid.1.listed c.args.front.state c.loop-k.k c.requires.state_bound.0 (omega (arith, c.loop-k-test.true, c.count-n.ensures)) in
    (c.requires.valid.1.long, small.0, small.1)

-- the test tells of the board's words
told : (c : At-After-newly) → Decides (Newly c.args.attack.most (to_in c.args.board.now c.args.front.state c.loop-k.k) (won_in c.args.board.now c.args.front.place) c.args.front.fresh) c.newly.result
told c =
    subst₂ (λ (to won : ℕ). Decides (Newly c.args.attack.most to won c.args.front.fresh) c.newly.result) c.to_at-to.ensures.0 c.won_at-won.ensures.0 c.newly.ensures

pub fire_move-requires : goal.fire_move-requires
fire_move-requires c = let new = D.truth (told c.before.before.before.before) c.if-newly.true in record { valid = c.requires.valid; lent = lent_still c.args.block.now c.args.attack.row c.args.ways.now c.args.board.now c.args.attack.most c.args.attack.safe c.args.attack.stage c.requires.lent.small c.loop-k.invariant.1 c.requires.lent; state_bound = (c.requires.state_bound.0, c.requires.state_bound.2, omega (arith, c.loop-k-test.true, c.count-n.ensures), new.0); place_lt_places = c.requires.state_bound.1 }

pub overflow_step-k : goal.overflow_step-k
overflow_step-k c = omega (arith, c.loop-k-test.true)

pub loop-k-smaller : goal.loop-k-smaller
loop-k-smaller c = omega (arith, c.loop-k-test.true)

pub loop-k-preserved : goal.loop-k-preserved
loop-k-preserved c = let Went : List ℕ → List ℕ → Type 0 = λ ranks flags.
    Evolved c.args.block.now c.args.attack.row c.args.ways.now c.args.board.now c.args.attack.most c.args.attack.safe c.args.attack.stage c.loop-k.ranks c.loop-k.flags ranks flags
    × (Newly c.args.attack.most (to_in c.args.board.now c.args.front.state c.loop-k.k) (won_in c.args.board.now c.args.front.place) c.args.front.fresh → DoneWith c.args.block.now c.args.attack.row c.args.ways.now c.args.board.now c.args.attack.most ranks c.args.front.state c.loop-k.k c.args.front.place) in
    let went : Went c.if-newly.ranks c.if-newly.flags =
    elim c.if-newly.branch [
      | then-newly w ↦
          subst₂ Went (sym w.ranks-is) (sym w.flags-is) (w.fire_move.ensures.0, λ _. w.fire_move.ensures.1)
      | else-newly w ↦
          subst₂ Went (sym w.ranks-is) (sym w.flags-is) (
            evolved_none c.args.block.now c.args.attack.row c.args.ways.now c.args.board.now c.args.attack.most c.args.attack.safe c.args.attack.stage _ _,
            λ new. absurd (D.falsity (told c.before.before) w.if-newly.false new),
          )
    ] in (
      omega (arith, c.loop-k-test.true),
      evolved_then c.args.block.now c.args.attack.row c.args.ways.now c.args.board.now c.args.attack.most c.args.attack.safe c.args.attack.stage c.requires.lent.small c.loop-k.invariant.1 went.0,
      state_more c.args.block.now c.args.attack.row c.args.ways.now c.args.board.now c.args.attack.most c.args.attack.safe c.args.attack.stage c.requires.lent.small went.0 c.requires.valid.1.playable c.args.front.place c.args.front.fresh c.args.front.state c.loop-k.k c.requires.state_bound.0 c.loop-k.invariant.2 went.1,
    )

pub shape_of-ranks : goal.shape_of-ranks
shape_of-ranks c = c.loop-k.invariant.1.ranks_long

pub shape_of-flags : goal.shape_of-flags
shape_of-flags c = c.loop-k.invariant.1.flags_long

pub returns : goal.returns
returns c = (c.loop-k.invariant.1, λ j l. c.loop-k.invariant.2 j (omega (arith, l, c.loop-k.invariant.0, c.loop-k-test.false, c.count-n.ensures)))
