-- `row_word` takes each state in which the row is true.
use Prim.Native.Nat.{◌-◌, ◌≤◌}
use Rattle.solver.specs.Inner.Rows.{TrueBy}
use Rattle.solver.proofs.Words.{SaysBelow}
use Rattle.solver.proofs.rows.row_word.Given as goal

abbrev pub invariant-loop-s : goal.invariant-loop-s
invariant-loop-s l = (l.s ≤ l.n) × SaysBelow (TrueBy l.block l.i l.left l.right l.ranks) l.s l.w

abbrev pub decreases-loop-s : goal.decreases-loop-s
decreases-loop-s l = l.n - l.s
