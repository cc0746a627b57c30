-- `round` works off one flagged place after another.
use Prim.Native.Nat.{◌-◌, ◌≤◌}
use Rattle.game.specs.Model.{arena_of}
use Rattle.ways.specs.Back.{Flags}
use Rattle.sweeps.specs.Sweeps.{Worked}
use Rattle.sweeps.proofs.flagged.round.Given as goal

abbrev pub invariant-loop-x : goal.invariant-loop-x
invariant-loop-x l = (l.x ≤ l.c) × Flags l.flags × Worked (arena_of l.block l.row.index) l.side.most l.side.safe l.x l.did l.initial.flags l.flags l.initial.ranks l.ranks

abbrev pub decreases-loop-x : goal.decreases-loop-x
decreases-loop-x l = l.c - l.x
