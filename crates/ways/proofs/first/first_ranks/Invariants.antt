-- `first_ranks` stores the ranks of one state after another, and zeros behind them.
use mathlib.Core.Path.{◌≡◌}
use Prim.Native.Nat.{◌*◌, ◌-◌, ◌≤◌}
use lib.ListN.{length}
use Rattle.ways.proofs.Starting.{FirstTo}
use Rattle.ways.proofs.first.first_ranks.Given as goal

abbrev pub invariant-loop-s : goal.invariant-loop-s
invariant-loop-s l = (l.s ≤ l.n) × (length l.ranks ≡ length l.initial.ranks) × FirstTo l.other l.goal l.c (l.n * l.c) (l.s * l.c) l.ranks

abbrev pub decreases-loop-s : goal.decreases-loop-s
decreases-loop-s l = l.n - l.s
