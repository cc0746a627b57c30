-- `run_stage` goes by the due places, one after another.
use mathlib.Core.List.{List}
use mathlib.Core.Path.{◌≡◌, sym, subst₂}
use Prim.Native.Nat.{ℕ}
use native.Mathlib.Omega.{arith}
use Rattle.ways.proofs.Leading.{few}
use Rattle.stages.specs.Stages.{due_at, Evolved}
use Rattle.stages.proofs.Evolving.{evolved_none, evolved_then, lent_still}
use Rattle.stages.proofs.Fronts.{DoneAt, stage_more}
use Rattle.stages.proofs.stage.run_stage.Goals as goal
use Rattle.stages.proofs.stage.run_stage.Goals.{then-flags-y-eq1, else-flags-y-eq1}

pub loop-y-init : goal.loop-y-init
loop-y-init c = let none = evolved_none c.args.block.now c.args.attack.row c.args.ways.now c.args.board.now c.args.attack.most c.args.attack.safe c.args.attack.stage c.args.ranks.now c.args.flags.now in
    (omega arith, none, λ y l. absurd (omega arith))

pub bounds-flags-y : goal.bounds-flags-y
bounds-flags-y c = omega (arith, c.loop-y-test.true, c.loop-y.invariant.1.flags_long, c.requires.lent.flags_long, few c.args.block.now c.requires.valid.0 c.args.attack.row c.requires.valid.1.playable)

pub run_place-requires : goal.run_place-requires
run_place-requires c = record { valid = c.requires.valid; lent = lent_still c.args.block.now c.args.attack.row c.args.ways.now c.args.board.now c.args.attack.most c.args.attack.safe c.args.attack.stage c.requires.lent.small c.loop-y.invariant.1 c.requires.lent; y_lt_places = (c.loop-y-test.true, c.requires.stage_nonzero) }

pub overflow_step-y : goal.overflow_step-y
overflow_step-y c = omega (arith, c.loop-y-test.true)

pub loop-y-smaller : goal.loop-y-smaller
loop-y-smaller c = omega (arith, c.loop-y-test.true)

pub loop-y-preserved : goal.loop-y-preserved
loop-y-preserved c = let Went : List ℕ → List ℕ → Type 0 = λ ranks flags.
    Evolved c.args.block.now c.args.attack.row c.args.ways.now c.args.board.now c.args.attack.most c.args.attack.safe c.args.attack.stage c.loop-y.ranks c.loop-y.flags ranks flags
    × (due_at c.loop-y.flags c.loop-y.y ≡ 1 → DoneAt c.args.block.now c.args.attack.row c.args.ways.now c.args.board.now c.args.attack.most c.args.attack.safe c.args.attack.stage c.loop-y.ranks ranks c.loop-y.y) in
    let went : Went c.if-flags-y-eq1.ranks c.if-flags-y-eq1.flags =
    elim c.if-flags-y-eq1.branch [
      | then-flags-y-eq1 w ↦
          subst₂ Went (sym w.ranks-is) (sym w.flags-is) (w.run_place.ensures.0, λ _. w.run_place.ensures.1)
      | else-flags-y-eq1 w ↦
          subst₂ Went (sym w.ranks-is) (sym w.flags-is) (
            evolved_none c.args.block.now c.args.attack.row c.args.ways.now c.args.board.now c.args.attack.most c.args.attack.safe c.args.attack.stage _ _,
            λ due. absurd (w.if-flags-y-eq1.false due),
          )
    ] in (
      omega (arith, c.loop-y-test.true),
      evolved_then c.args.block.now c.args.attack.row c.args.ways.now c.args.board.now c.args.attack.most c.args.attack.safe c.args.attack.stage c.requires.lent.small c.loop-y.invariant.1 went.0,
      stage_more c.args.block.now c.args.attack.row c.args.ways.now c.args.board.now c.args.attack.most c.args.attack.safe c.args.attack.stage c.requires.lent.small c.requires.valid.1.playable (few c.args.block.now c.requires.valid.0 c.args.attack.row c.requires.valid.1.playable) c.loop-y.invariant.1 went.0 c.loop-y.y c.loop-y-test.true c.loop-y.invariant.2 went.1,
    )

pub shape_of-ranks : goal.shape_of-ranks
shape_of-ranks c = c.loop-y.invariant.1.ranks_long

pub shape_of-flags : goal.shape_of-flags
shape_of-flags c = c.loop-y.invariant.1.flags_long

pub returns : goal.returns
returns c = (c.loop-y.invariant.1, λ y l. c.loop-y.invariant.2 y (omega (arith, l, c.loop-y.invariant.0, c.loop-y-test.false)))
