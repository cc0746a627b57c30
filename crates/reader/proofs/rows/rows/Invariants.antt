-- `rows` reads the lines of the rows.
use mathlib.Core.Path.{◌≡◌}
use Prim.Native.Nat.{◌≤◌, ◌-◌}
use lib.ListN.{length}
use Rattle.block.specs.Layout.{block_bytes}
use Rattle.text.specs.Job as J
use Rattle.reader.proofs.Progress.{Reached}
use Rattle.reader.proofs.rows.rows.Given as goal

abbrev pub invariant-loop-i : goal.invariant-loop-i
invariant-loop-i l = (l.next ≤ length l.text) × (length l.job ≡ block_bytes) × (l.i ≤ l.z.rows) × Reached (J.row_lines l.z) l.text l.z.rows l.initial.next l.initial.job l.next l.job l.i

abbrev pub decreases-loop-i : goal.decreases-loop-i
decreases-loop-i l = l.z.rows - l.i
