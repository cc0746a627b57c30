-- `store_state` stores one word after another.
use mathlib.Core.Bool.{true}
use mathlib.Core.Path.{◌≡◌}
use Prim.Native.Nat.{ℕ, ◌-◌, ◌≤◌, ◌<◌}
use lib.ListN.{length}
use Rattle.ways.specs.Lines.{number_in}
use Rattle.boards.specs.Boards.{to_in, Nexts}
use Rattle.boards.proofs.board.store_state.Given as goal

abbrev pub invariant-loop-k : goal.invariant-loop-k
invariant-loop-k l = (l.k ≤ l.n) × ((i : ℕ) → i < l.k → Nexts l.block l.row l.s (number_in l.ways l.s true i) (to_in l.board l.s i)) × ((t i : ℕ) → t < l.s → i < 64 → to_in l.board t i ≡ to_in l.initial.board t i) × (length l.board ≡ length l.initial.board)

abbrev pub decreases-loop-k : goal.decreases-loop-k
decreases-loop-k l = l.n - l.k
