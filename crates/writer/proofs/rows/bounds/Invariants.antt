-- `bounds` writes the bounds of a row, resource by resource.
use Prim.Native.Nat.{◌*◌, ◌≤◌}
use Rattle.text.specs.Inner.Adding.{Within}
use Rattle.text.specs.Job as J
use Rattle.writer.specs.Inner.Lengths.{field_bytes}
use Rattle.writer.proofs.Writing.{Looped}
use Rattle.writer.proofs.rows.bounds.Given as goal

abbrev pub invariant-loop-j : goal.invariant-loop-j
invariant-loop-j l = (l.j ≤ l.resources) × (Within (field_bytes * l.j) l.initial.out l.out × Looped (J.bound_fields l.i) l.resources l.block l.initial.out l.out l.j)
