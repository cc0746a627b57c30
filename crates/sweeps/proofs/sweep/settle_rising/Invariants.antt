-- `settle_rising` settles one stock place after another; those below stay settled.
use Prim.Native.Nat.{◌-◌, ◌≤◌}
use Rattle.game.specs.Model.{structure_of, arena_of}
use Rattle.game.proofs.Bridge.Proper.{Proper}
use Rattle.sweeps.proofs.Sweeping.{SettledBelow}
use Rattle.sweeps.proofs.sweep.settle_rising.Given as goal

abbrev pub invariant-loop-x : goal.invariant-loop-x
invariant-loop-x l = (l.x ≤ l.c) × ((proper : Proper (structure_of l.block)) → SettledBelow (arena_of l.block l.row.index) proper l.side.most l.side.safe l.x l.initial.ranks l.ranks)

abbrev pub decreases-loop-x : goal.decreases-loop-x
decreases-loop-x l = l.c - l.x
