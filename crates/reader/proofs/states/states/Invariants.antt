-- `states` reads the lines of the states.
use mathlib.Core.Path.{◌≡◌}
use Prim.Native.Nat.{◌≤◌, ◌-◌}
use lib.ListN.{length}
use Rattle.block.specs.Layout.{block_bytes}
use Rattle.text.specs.Job as J
use Rattle.reader.proofs.Progress.{Reached}
use Rattle.reader.proofs.states.states.Given as goal

abbrev pub invariant-loop-s : goal.invariant-loop-s
invariant-loop-s l = (l.next ≤ length l.text) × (length l.job ≡ block_bytes) × (l.s ≤ l.z.states) × Reached (J.states l.z) l.text l.z.states l.initial.next l.initial.job l.next l.job l.s

abbrev pub decreases-loop-s : goal.decreases-loop-s
decreases-loop-s l = l.z.states - l.s
