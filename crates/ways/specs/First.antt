-- The ranks that an attack starts from: 0 at a goal, and another elsewhere.
use Rattle.std.specs.Prelude.{List, ◌⊎◌, ◌≡◌, ℕ, ◌/◌, ◌≤◌, ◌<◌, length}
use Rattle.block.specs.Decide.{Bit}
use Rattle.turns.specs.Buffers.{rank_in}

-- the first rank in state s
abbrev pub FirstIn : ℕ → ℕ → ℕ → ℕ → Type 0
FirstIn other goal s rank = (Bit goal s → rank ≡ 0) × ((Bit goal s → ⊥) → rank ≡ other)

-- and that of position n of so many positions, with c of them in each state
pub record FirstRank (other goal c positions n rank : ℕ) : Type 0 where
  pub within : n < positions → FirstIn other goal (n / c) rank
  pub outside : positions ≤ n → rank ≡ 0

-- the positions from `first` to before `end` have this rank, and nothing else changed
pub record SpanStored (first end rank : ℕ) (l l' : List ℕ) : Type 0 where
  pub inside : (k : ℕ) → first ≤ k → k < end → rank_in l' k ≡ rank
  pub others : (k : ℕ) → (k < first) ⊎ (end ≤ k) → rank_in l' k ≡ rank_in l k
  pub long : length l' ≡ length l
