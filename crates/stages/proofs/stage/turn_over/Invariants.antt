-- `turn_over` goes through the places.
use Prim.Native.Nat.{◌-◌, ◌≤◌}
use Rattle.block.specs.Layout as L
use Rattle.stages.specs.Stages.{TurnedTo}
use Rattle.stages.proofs.stage.turn_over.Given as goal

abbrev pub invariant-loop-x : goal.invariant-loop-x
invariant-loop-x l = (l.x ≤ l.c) × TurnedTo (L.states l.block) l.row.places l.ranks l.n l.x l.more l.initial.board l.initial.flags l.board l.flags

abbrev pub decreases-loop-x : goal.decreases-loop-x
decreases-loop-x l = l.c - l.x
