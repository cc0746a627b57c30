-- `gos` reads the next states of the joint actions that can be done.
use mathlib.Core.Path.{◌≡◌}
use Prim.Native.Nat.{◌≤◌, ◌-◌}
use lib.ListN.{length}
use Rattle.block.specs.Layout.{block_bytes}
use Rattle.text.specs.Job as J
use Rattle.reader.proofs.Progress.{Reached}
use Rattle.reader.proofs.gos.gos.Given as goal

abbrev pub invariant-loop-joint : goal.invariant-loop-joint
invariant-loop-joint l =
    (l.next ≤ length l.text) × (length l.job ≡ block_bytes) × (l.joint ≤ 64) ×
    Reached (J.next_fields l.z l.s l.counts) l.text 64 l.initial.next l.initial.job l.next l.job l.joint

abbrev pub decreases-loop-joint : goal.decreases-loop-joint
decreases-loop-joint l = 64 - l.joint
