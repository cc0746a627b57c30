-- What a test tells, and the lowest bit of a word.
use Rattle.std.specs.Prelude.{Bool, true, false, ℕ, ◌<◌}
use Rattle.block.specs.Decide.{Bit}

-- a test tells whether P holds
pub data Decides (P : Type 0) : Bool → Type 0 where
  holds : P → Decides P true
  fails : (P → ⊥) → Decides P false

-- s is the lowest bit of the word w
pub record Lowest (w s : ℕ) : Type 0 where
  pub bit : Bit w s
  pub first : (x : ℕ) → x < s → Bit w x → ⊥
