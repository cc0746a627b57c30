-- `job_lines` writes the first line and then the lines of each row.
use mathlib.Core.Path.{◌≡◌}
use Prim.Native.Nat.{◌-◌, ◌≤◌}
use lib.ListN.{length}
use Rattle.text.specs.Inner.Adding.{SameBuffer}
use Rattle.turns.specs.Sizes.{sets_bytes, room_bytes, moves_bytes}
use Rattle.solver.specs.Inner.Labels.{LowerSets}
use Rattle.report.proofs.Jobwise.{Rowed}
use Rattle.report.proofs.rows.job_lines.Given as goal

abbrev pub invariant-loop-i : goal.invariant-loop-i
invariant-loop-i l =
    ((l.i ≤ l.n) × (length l.sets ≡ sets_bytes) × (length l.ranks ≡ room_bytes) × (length l.moves ≡ moves_bytes) × SameBuffer l.initial.lines l.lines)
    × (LowerSets l.block l.i l.sets × Rowed l.block l.lines l.i)

abbrev pub decreases-loop-i : goal.decreases-loop-i
decreases-loop-i l = l.n - l.i
