-- `costs` reads the costs of an action, resource by resource.
use mathlib.Core.Path.{◌≡◌}
use Prim.Native.Nat.{◌≤◌, ◌-◌}
use lib.ListN.{length}
use Rattle.block.specs.Layout.{block_bytes}
use Rattle.text.specs.Job as J
use Rattle.reader.proofs.Progress.{Reached}
use Rattle.reader.proofs.actions.costs.Given as goal

abbrev pub invariant-loop-j : goal.invariant-loop-j
invariant-loop-j l =
    (l.next ≤ length l.text) × (length l.job ≡ block_bytes) × (l.j ≤ l.z.resources) ×
    Reached (J.costs l.z l.who.state l.who.agent l.n l.k) l.text l.z.resources l.initial.next l.initial.job l.next l.job l.j

abbrev pub decreases-loop-j : goal.decreases-loop-j
decreases-loop-j l = l.z.resources - l.j
