-- The largest or the smallest of some numbers as one notion: until asks for the largest rank over the replies, always for the smallest.
use Rattle.std.specs.Prelude.{Bool, true, false, not, ◌⊎◌, ◌≡◌, ℕ, ◌≤◌, ◌<◌}
use Rattle.game.specs.Position.{Arena, Position, Reply, outcome, number}

-- v is at least x, or at most x
abbrev pub Beyond : Bool → ℕ → ℕ → Type 0
Beyond true x v = x ≤ v
Beyond false x v = v ≤ x

-- v is the largest, or the smallest, of two numbers
pub record Further (most : Bool) (a b v : ℕ) : Type 0 where
  pub first : Beyond most a v
  pub second : Beyond most b v
  pub taken : (v ≡ a) ⊎ (v ≡ b)

-- v is the largest, or the smallest, of the first n values
pub record Extreme (most : Bool) (n : ℕ) (f : ℕ → ℕ) (v : ℕ) : Type 0 where
  pub beyond : (k : ℕ) → k < n → Beyond most (f k) v
  pub taken : (k : ℕ) × (k < n) × (f k ≡ v)

-- r is the extreme of the first n values, or a limit that it does not get past
pub record BestOf (most : Bool) (n : ℕ) (f : ℕ → ℕ) (limit r : ℕ) : Type 0 where
  pub worst : ℕ
  pub extreme : Extreme most n f worst
  pub further : Further (not most) worst limit r

-- v is the largest rank over the outcomes of the move m at p, or the smallest
pub record Worst (G : Arena) (most : Bool) (rank : ℕ → ℕ) (p : Position) (m v : ℕ) : Type 0 where
  pub each : (r : ℕ) → Reply G p r → Beyond most (rank (number G (outcome G p m r))) v
  pub some : (r : ℕ) × Reply G p r × (rank (number G (outcome G p m r)) ≡ v)
