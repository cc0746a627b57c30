-- `run` turns the board over and goes on with stages as long as a place is due.
use mathlib.Core.Bool.{true}
use mathlib.Core.Path.{refl, sym, ◌∙◌, subst}
use Prim.Native.Nat.{◌+◌, ◌≤◌}
use native.Mathlib.Omega.{arith}
use lib.ListN.{get_or-replicate}
use Rattle.ways.proofs.Leading.{few}
use Rattle.stages.proofs.Running.{Running, running_first, stage_small, stage_lent, running_next, running_less, running_found}
use Rattle.stages.proofs.solve.run.Goals as goal
use Rattle.stages.proofs.solve.run.Lts as lts
use Rattle.stages.proofs.solve.run.Reads as reads
use Rattle.stages.proofs.solve.run.Tie as tie

abbrev At-In-loop-more : Type 0
At-In-loop-more = lts.In-loop tie.the-claims reads.Pre reads.Post goal.the-invariant-loop-more goal.the-decreases-loop-more tie.handed_clauses

pub slice_bounds-turn_over-end : goal.slice_bounds-turn_over-end
slice_bounds-turn_over-end c = refl

pub turn_over-more-requires : goal.turn_over-more-requires
turn_over-more-requires c = record { valid = c.requires.valid.0; playable = (c.requires.valid.1.playable, c.requires.valid.1.long, omega (arith, c.requires.ranks_len), refl) }

pub loop-more-init : goal.loop-more-init
loop-more-init c = running_first c.args.block.now c.requires.valid.0 c.args.row c.args.ways.now c.args.side.most c.args.side.safe c.args.goal c.args.ranks.now c.args.board.now _ _ _ _ c.requires.valid.1 c.requires.by_index
    (λ x place. get_or-replicate 512 (256 + x) 1 0 (omega (arith, few c.args.block.now c.requires.valid.0 c.args.row c.requires.valid.1.playable))) refl c.turn_over-more.ensures

-- where the loop goes on, something is due
now : (c : At-In-loop-more) → Running c.args.block.now c.args.row c.args.ways.now c.args.side.most c.args.side.safe c.args.goal c.args.ranks.now c.loop-more.board c.loop-more.ranks c.loop-more.flags c.loop-more.n true
now c = subst (Running c.args.block.now c.args.row c.args.ways.now c.args.side.most c.args.side.safe c.args.goal c.args.ranks.now c.loop-more.board c.loop-more.ranks c.loop-more.flags c.loop-more.n) c.loop-more-test.true c.loop-more.invariant

small : (c : At-In-loop-more) → c.loop-more.n ≤ 6145
small c = stage_small _ c.requires.valid.0 _ _ _ _ _ _ _ _ _ _ (now c)

pub slice_bounds-run_stage-end : goal.slice_bounds-run_stage-end
slice_bounds-run_stage-end c = sym c.loop-more.invariant.flags_long

pub run_stage-requires : goal.run_stage-requires
run_stage-requires c = let running = now c.before.before.before in
    record { valid = (c.requires.valid.0, c.loop-more.invariant.ready); lent = stage_lent _ c.requires.valid.0 _ _ _ _ _ _ _ _ _ _ running c.requires.ranks_len; stage_nonzero = c.loop-more.invariant.positive }

pub overflow_add-n : goal.overflow_add-n
overflow_add-n c = record { fits = omega (arith, small c.before.before.before.before.before.before.before) }

pub slice_bounds-turn_over-end-in-loop-more : goal.slice_bounds-turn_over-end-in-loop-more
slice_bounds-turn_over-end-in-loop-more c = sym (c.run_stage.ensures.0.flags_long ∙ c.loop-more.invariant.flags_long)

pub turn_over-more-requires-in-loop-more : goal.turn_over-more-requires-in-loop-more
turn_over-more-requires-in-loop-more c = record { valid = c.requires.valid.0; playable = (c.loop-more.invariant.ready.playable, c.loop-more.invariant.ready.long, omega (arith, c.run_stage.ensures.0.ranks_long, c.loop-more.invariant.long, c.requires.ranks_len), c.run_stage.ensures.0.flags_long ∙ c.loop-more.invariant.flags_long) }

pub loop-more-smaller : goal.loop-more-smaller
loop-more-smaller c = running_less _ c.requires.valid.0 _ _ _ _ _ _ _ _ _ _ (now c.before.before.before.before.before.before.before.before.before.before.before.before.before) _ _ _ _ _ c.run_stage.ensures.0 c.run_stage.ensures.1 c.turn_over-more-in-loop-more.ensures _ c.loop-more-test.true

pub loop-more-preserved : goal.loop-more-preserved
loop-more-preserved c = let running = now c.before.before.before.before.before.before.before.before.before.before.before.before.before in
    running_next _ c.requires.valid.0 _ _ _ _ _ _ _ _ _ _ running _ _ _ _ _ c.run_stage.ensures.0 c.run_stage.ensures.1 c.turn_over-more-in-loop-more.ensures

pub shape_of-board : goal.shape_of-board
shape_of-board c = c.loop-more.invariant.ready.long ∙ sym c.requires.valid.1.long

pub shape_of-ranks : goal.shape_of-ranks
shape_of-ranks c = c.loop-more.invariant.long

pub returns : goal.returns
returns c = running_found _ c.requires.valid.0 _ _ _ _ _ _ _ _ _ _ (subst (Running c.args.block.now c.args.row c.args.ways.now c.args.side.most c.args.side.safe c.args.goal c.args.ranks.now c.loop-more.board c.loop-more.ranks c.loop-more.flags c.loop-more.n) c.loop-more-test.false c.loop-more.invariant)
