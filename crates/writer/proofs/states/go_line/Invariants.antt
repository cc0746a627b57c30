-- `go_line` writes a state and the next states, in rising joint number.
use Prim.Native.Nat.{◌*◌, ◌≤◌}
use Rattle.text.specs.Inner.Adding.{Within}
use Rattle.block.specs.Layout.{max_joint}
use Rattle.text.specs.Job as J
use Rattle.writer.specs.Inner.Lengths.{field_bytes}
use Rattle.writer.specs.Inner.Writing.{written_sizes}
use Rattle.writer.proofs.Writing.{Looped}
use Rattle.writer.proofs.states.go_line.Given as goal

abbrev pub invariant-loop-joint : goal.invariant-loop-joint
invariant-loop-joint l = (l.joint ≤ max_joint) × (Within (field_bytes * l.joint) l.initial.out l.out × Looped (J.next_fields (written_sizes l.block) l.s l.counts) max_joint l.block l.initial.out l.out l.joint)
