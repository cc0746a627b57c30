-- `play` takes one turn for each byte of the script, as long as the row is unfinished.
use Prim.Native.Nat.{◌-◌, ◌≤◌}
use lib.ListN.{length}
use Rattle.game.specs.Position.{full}
use Rattle.game.specs.Model.{arena_of, objective_of}
use Rattle.rehearsal.specs.Inner.Turns.{Stands}
use Rattle.rehearsal.proofs.script.play.Given as goal

abbrev pub invariant-loop-n : goal.invariant-loop-n
invariant-loop-n l =
    (l.n ≤ length l.script) × Stands (arena_of l.block l.i) (objective_of l.block l.i) l.script (full (arena_of l.block l.i) l.s) l.n l.spot.state l.spot.place

abbrev pub decreases-loop-n : goal.decreases-loop-n
decreases-loop-n l = length l.script - l.n
