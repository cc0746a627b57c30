-- `bounds` reads the bounds of a row, resource by resource.
use mathlib.Core.Path.{◌≡◌}
use Prim.Native.Nat.{◌≤◌, ◌-◌}
use lib.ListN.{length}
use Rattle.block.specs.Layout.{block_bytes}
use Rattle.text.specs.Job as J
use Rattle.reader.proofs.Progress.{Reached}
use Rattle.reader.proofs.rows.bounds.Given as goal

abbrev pub invariant-loop-j : goal.invariant-loop-j
invariant-loop-j l = (l.next ≤ length l.text) × (length l.job ≡ block_bytes) × (l.j ≤ l.resources) × Reached (J.bound_fields l.i) l.text l.resources l.initial.next l.initial.job l.next l.job l.j

abbrev pub decreases-loop-j : goal.decreases-loop-j
decreases-loop-j l = l.resources - l.j
