-- What a store in a lent buffer changes.
use Rattle.std.specs.Prelude.{Bool, true, false, List, ◌≡◌, ℕ, ◌≤◌, ◌<◌, length}
use Rattle.turns.specs.Buffers.{rank_in}

-- one word of a buffer was stored, and nothing else
pub record Stored (word_of : List ℕ → ℕ → ℕ) (before after : List ℕ) (p v : ℕ) : Type 0 where
  pub stored : word_of after p ≡ v
  pub others : (i : ℕ) → (i ≡ p → ⊥) → word_of after i ≡ word_of before i
  pub kept : length after ≡ length before

-- a rank was lowered to v, or was at most v already and nothing changed
abbrev pub Lowered : Bool → List ℕ → List ℕ → ℕ → ℕ → Type 0
Lowered true before after p v = Stored rank_in before after p v × (v < rank_in before p)
Lowered false before after p v = (after ≡ before) × (rank_in before p ≤ v)
