-- `store_nexts` stores the words of one state after another.
use mathlib.Core.Path.{◌≡◌}
use Prim.Native.Nat.{◌-◌, ◌≤◌}
use lib.ListN.{length}
use Rattle.boards.proofs.Gathering.{NextsTo}
use Rattle.boards.proofs.board.store_nexts.Given as goal

abbrev pub invariant-loop-s : goal.invariant-loop-s
invariant-loop-s l = (l.s ≤ l.n) × NextsTo l.block l.row l.ways l.s l.board × (length l.board ≡ length l.initial.board)

abbrev pub decreases-loop-s : goal.decreases-loop-s
decreases-loop-s l = l.n - l.s
