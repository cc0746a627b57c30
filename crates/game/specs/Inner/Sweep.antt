-- What a solver keeps while it lowers ranks in place, and by what it lowers them.
use Rattle.std.specs.Prelude.{cond, ℕ, zero, suc, ◌+◌, ◌≤◌, ◌<◌, ltb}
use Rattle.game.specs.Position.{Arena, Position, number, positions}
use Rattle.game.specs.Table.{never}
use Rattle.game.specs.Inner.Facts.{Sound}

-- how many of the first n ranks are below k
abbrev pub count_below : (ℕ → ℕ) → ℕ → ℕ → ℕ
count_below rank zero k = 0
count_below rank (suc n) k = count_below rank n k + cond (ltb (rank n) k) 1 0

-- a finite rank has at least as many ranks below it, so that it stays below the number of positions also while ranks still fall
abbrev pub Crowded : ℕ → (ℕ → ℕ) → Type 0
Crowded n rank = (i : ℕ) → i < n → rank i < never → rank i ≤ count_below rank n (rank i)

-- finite ranks are sound, and crowded
pub record Kept (G : Arena) (Safe Goal : ℕ → Type 0) (Attack : Position → (Position → Type 0) → Type 0) (rank : ℕ → ℕ) : Type 0 where
  pub sound : Sound G Safe Goal (λ x. rank (number G x)) Attack
  pub crowded : Crowded (positions G) rank

-- the sum of the first n ranks, which falls whenever one is lowered
abbrev pub total : (ℕ → ℕ) → ℕ → ℕ
total rank zero = 0
total rank (suc n) = total rank n + rank n
