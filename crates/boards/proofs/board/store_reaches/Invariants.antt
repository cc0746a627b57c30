-- `store_reaches` stores the word of one state after another.
use mathlib.Core.Path.{◌≡◌}
use Prim.Native.Nat.{ℕ, ◌-◌, ◌≤◌, ◌<◌}
use lib.ListN.{length}
use Rattle.turns.specs.Buffers.{narrow_in}
use Rattle.boards.specs.Boards.{nexts_words}
use Rattle.boards.proofs.Gathering.{ReachesTo}
use Rattle.boards.proofs.board.store_reaches.Given as goal

abbrev pub invariant-loop-s : goal.invariant-loop-s
invariant-loop-s l = (l.s ≤ l.n) × ReachesTo l.ways l.s l.board × ((i : ℕ) → i < nexts_words → narrow_in l.board i ≡ narrow_in l.initial.board i) × (length l.board ≡ length l.initial.board)

abbrev pub decreases-loop-s : goal.decreases-loop-s
decreases-loop-s l = l.n - l.s
