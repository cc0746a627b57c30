-- `turn_place` moves the flag of a place and stores its set.
use Prim.Native.Nat.{◌+◌, ◌<◌}
use native.Mathlib.Omega.{arith}
use lib.ListN.{length-set}
use Rattle.block.specs.Layout as L
use Rattle.ways.proofs.Leading.{few}
use Rattle.stages.proofs.Turning.{turned_quiet, turned_set}
use Rattle.stages.proofs.stage.turn_place.Goals as goal
use Rattle.stages.proofs.stage.turn_place.Lts as lts
use Rattle.stages.proofs.stage.turn_place.Reads as reads
use Rattle.stages.proofs.stage.turn_place.Tie as tie

abbrev At-Start : Type 0
At-Start = lts.Start tie.the-claims reads.Pre reads.Post tie.handed_clauses

place : (c : At-Start) → c.args.x < 256
place c = omega (arith, few c.args.block.now c.requires.valid c.args.row c.requires.playable.0, c.requires.x_lt_places)

pub overflow_add-marked : goal.overflow_add-marked
overflow_add-marked c = record { fits = omega (arith, place c.before.before.before.before.before) }

pub bounds-flags-x : goal.bounds-flags-x
bounds-flags-x c = omega (arith, place c.before.before.before.before.before.before, c.requires.playable.3)

pub overflow_add-flags : goal.overflow_add-flags
overflow_add-flags c = record { fits = omega (arith, place c.before.before.before.before.before.before) }

pub bounds-flags-x-2 : goal.bounds-flags-x-2
bounds-flags-x-2 c = omega (arith, place c.before.before.before.before.before.before, c.requires.playable.3)

pub bounds-flags-x-3 : goal.bounds-flags-x-3
bounds-flags-x-3 c = omega (arith, place c.before.before.before.before.before.before, c.requires.playable.3, length-set c.args.flags.now (256 + c.args.x) 0)

pub returns-then-marked-ne1 : goal.returns-then-marked-ne1
returns-then-marked-ne1 c = turned_quiet c.args.flags.now c.args.x (place c.before.before.before.before.before.before.before) c.requires.playable.3 (L.states c.args.block.now) c.args.row.places c.args.ranks.now c.args.n c.args.board.now c.if-marked-ne1.true

pub overflow_add-x : goal.overflow_add-x
overflow_add-x c = record { fits = omega (arith, place c.before.before.before.before.before.before.before.before.before) }

pub set_narrow-requires : goal.set_narrow-requires
set_narrow-requires c = (omega (arith, place c.before.before.before.before.before.before.before.before.before, c.requires.playable.1), c.ranked_within-won.ensures.1)

pub returns : goal.returns
returns c = turned_set c.args.flags.now c.args.x (place c.before.before.before.before.before.before.before.before.before.before.before.before) c.requires.playable.3 (L.states c.args.block.now) c.args.row.places c.args.ranks.now c.args.n c.args.board.now c.if-marked-ne1.false c.ranked_within-won.ensures.0 c.set_narrow.ensures
