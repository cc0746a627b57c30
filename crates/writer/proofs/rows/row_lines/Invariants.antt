-- `row_lines` writes the rows in turn.
use Prim.Native.Nat.{◌*◌, ◌≤◌}
use Rattle.text.specs.Inner.Adding.{Within}
use Rattle.text.specs.Job as J
use Rattle.writer.specs.Inner.Lengths.{row_line_bytes}
use Rattle.writer.specs.Inner.Writing.{written_sizes}
use Rattle.writer.proofs.Writing.{Looped}
use Rattle.writer.proofs.rows.row_lines.Given as goal

abbrev pub invariant-loop-i : goal.invariant-loop-i
invariant-loop-i l = (l.i ≤ l.rows) × (Within (row_line_bytes * l.i) l.initial.out l.out × Looped (J.row_lines (written_sizes l.block)) l.rows l.block l.initial.out l.out l.i)
