-- `label_rows` labels one row of the word after another.
use mathlib.Core.Path.{◌≡◌}
use Prim.Native.Nat.{◌-◌, ◌≤◌}
use lib.ListN.{length}
use Rattle.solver.specs.Inner.Labels.{InWord, RowsLabelled}
use Rattle.solver.proofs.label.label_rows.Given as goal

abbrev pub invariant-loop-i : goal.invariant-loop-i
invariant-loop-i l = (l.i ≤ l.n) × ((length l.ways ≡ length l.initial.ways) × (length l.ranks ≡ length l.initial.ranks)) × RowsLabelled l.block (InWord l.i l.word) l.initial.sets l.sets

abbrev pub decreases-loop-i : goal.decreases-loop-i
decreases-loop-i l = l.n - l.i
