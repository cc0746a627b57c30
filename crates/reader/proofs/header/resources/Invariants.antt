-- `resources` reads the kinds of the resources and keeps them.
use mathlib.Core.Path.{◌≡◌}
use Prim.Native.Nat.{◌≤◌, ◌-◌}
use lib.ListN.{length}
use Rattle.block.specs.Layout.{block_bytes, max_resources}
use Rattle.block.specs.declared.layout.Place.TheVariants.{ResourceKind}
use Rattle.text.specs.Format.{value}
use Rattle.text.specs.Job as J
use Rattle.reader.proofs.Progress.{Collected}
use Rattle.reader.proofs.header.resources.Given as goal

abbrev pub invariant-loop-j : goal.invariant-loop-j
invariant-loop-j l =
    (l.next ≤ length l.text) × (length l.job ≡ block_bytes) × (l.j ≤ l.resources) × (length l.kinds ≡ max_resources) ×
    Collected (λ left i. value (J.resource_spelling l.e left) (ResourceKind i)) l.text l.resources J.no_kinds l.initial.next l.initial.job l.next l.job l.kinds l.j

abbrev pub decreases-loop-j : goal.decreases-loop-j
decreases-loop-j l = l.resources - l.j
