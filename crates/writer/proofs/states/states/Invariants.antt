-- `states` writes the states in turn.
use Prim.Native.Nat.{◌*◌, ◌≤◌}
use Rattle.text.specs.Inner.Adding.{Within}
use Rattle.text.specs.Job as J
use Rattle.writer.specs.Inner.Lengths.{state_lines_bytes}
use Rattle.writer.specs.Inner.Writing.{written_sizes}
use Rattle.writer.proofs.Writing.{Looped}
use Rattle.writer.proofs.states.states.Given as goal

abbrev pub invariant-loop-s : goal.invariant-loop-s
invariant-loop-s l = (l.s ≤ l.states) × (Within (state_lines_bytes * l.s) l.initial.out l.out × Looped (J.states (written_sizes l.block)) l.states l.block l.initial.out l.out l.s)
