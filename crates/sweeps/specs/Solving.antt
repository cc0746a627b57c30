-- The ranks of an until or an always row, as they are first and as they are found.
use Rattle.std.specs.Prelude.{Bool, List, ◌≡◌, ℕ, ◌≤◌, ◌<◌}
use Rattle.block.specs.Decide.{Bit}
use Rattle.game.specs.Position.{Arena, number, positions}
use Rattle.game.specs.Inner.Facts.{Ranked}
use Rattle.turns.specs.Buffers.{rank_in}
use Rattle.sweeps.specs.Values.{Attacks, Defends}
use Rattle.turns.specs.Sizes.{max_positions}

-- the ranks are right, and 0 past the last position
pub record Solved (G : Arena) (most : Bool) (safe goal : ℕ) (ranks : List ℕ) : Type 0 where
  pub ranked : Ranked G (Bit safe) (Bit goal) (λ p. rank_in ranks (number G p)) (Attacks G most) (Defends G most)
  pub outside : (n : ℕ) → positions G ≤ n → n < max_positions → rank_in ranks n ≡ 0
