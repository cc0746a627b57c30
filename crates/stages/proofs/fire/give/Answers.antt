-- `give` stores one rank and one flag.
use Prim.Native.Nat.{◌+◌, ◌*◌, ◌<◌}
use native.Mathlib.Omega.{arith}
use Rattle.ways.proofs.Leading.{few, number_inside}
use Rattle.stages.specs.Stages.{ranked}
use Rattle.stages.proofs.Touching.{marked_here, evolved_one}
use Rattle.stages.proofs.fire.give.Goals as goal
use Rattle.stages.proofs.fire.give.Lts as lts
use Rattle.stages.proofs.fire.give.Reads as reads
use Rattle.stages.proofs.fire.give.Tie as tie

abbrev At-Start : Type 0
At-Start = lts.Start tie.the-claims reads.Pre reads.Post tie.handed_clauses

-- the rank stands within the buffer, and the flag too
module _ (start : At-Start) where
  inside : start.args.fire.state * start.args.fire.row.places + start.args.x < 6144
  inside = number_inside start.args.block.now start.requires.valid.0 start.args.fire.row start.requires.valid.1.playable start.args.fire.state start.args.x start.requires.state_bound.0 start.requires.state_bound.1

  small : start.args.x < 256
  small = omega (arith, few start.args.block.now start.requires.valid.0 start.args.fire.row start.requires.valid.1.playable, start.requires.state_bound.1)

pub overflow_mul-p : goal.overflow_mul-p
overflow_mul-p c = omega (arith, inside c.before.before.before.before.before.before.before)

pub overflow_add-p : goal.overflow_add-p
overflow_add-p c = omega (arith, inside c.before.before.before.before.before.before.before)

pub set_rank-requires : goal.set_rank-requires
set_rank-requires c = (omega (arith, inside c.before.before.before.before.before.before.before.before, c.requires.lent.ranks_long), omega (arith, c.requires.lent.small))

pub overflow_add-flags : goal.overflow_add-flags
overflow_add-flags c = omega (arith, small c.before.before.before.before.before.before.before.before.before.before.before)

pub bounds-flags-x : goal.bounds-flags-x
bounds-flags-x c = omega (arith, small c.before.before.before.before.before.before.before.before.before.before.before, c.requires.lent.flags_long)

pub returns : goal.returns
returns c = (
  evolved_one c.args.block.now c.requires.valid.0 c.args.fire.row c.requires.valid.1.playable c.args.ways.now c.args.board.now c.args.fire.most c.args.fire.safe c.args.fire.stage c.args.fire.state c.args.x c.args.fire.stage
      c.requires.state_bound.0 c.requires.state_bound.1 c.requires.state_bound.2 c.set_rank.ensures (ranked c.requires.state_bound.3 c.requires.state_bound.4)
      (marked_here c.args.x c.args.flags.now (omega (arith, small c.before.before.before.before.before.before.before.before.before.before.before, c.requires.lent.flags_long)) (c.requires.state_bound.3, c.requires.lent.small)),
  c.set_rank.ensures.stored,
)
