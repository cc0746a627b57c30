-- `finish` goes through the words.
use Prim.Native.Nat.{◌-◌, ◌≤◌}
use Rattle.stages.specs.Solving.{Finished}
use Rattle.stages.proofs.start.finish.Given as goal

abbrev pub invariant-loop-p : goal.invariant-loop-p
invariant-loop-p l = (l.p ≤ l.positions) × Finished l.p l.initial.ranks l.ranks

abbrev pub decreases-loop-p : goal.decreases-loop-p
decreases-loop-p l = l.positions - l.p
