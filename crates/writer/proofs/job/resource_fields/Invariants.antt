-- `resource_fields` writes the kinds of the resources.
use Prim.Native.Nat.{◌*◌, ◌≤◌}
use Rattle.text.specs.Inner.Adding.{Within}
use Rattle.text.specs.declared.sizes.Edition.TheVariants.{Second}
use Rattle.block.specs.Layout.{resource_kind}
use Rattle.block.specs.declared.layout.Place.TheVariants.{ResourceKind}
use Rattle.text.specs.Format.{value}
use Rattle.text.specs.Job as J
use Rattle.writer.specs.Inner.Lengths.{field_bytes}
use Rattle.writer.proofs.Writing.{Collected}
use Rattle.writer.proofs.job.resource_fields.Given as goal

abbrev pub invariant-loop-j : goal.invariant-loop-j
invariant-loop-j l = (l.j ≤ l.resources) × (Within (field_bytes * l.j) l.initial.out l.out × Collected (λ left i. value (J.resource_spelling Second left) (ResourceKind i)) (resource_kind l.block) J.no_kinds l.resources l.block l.initial.out l.out l.j)
