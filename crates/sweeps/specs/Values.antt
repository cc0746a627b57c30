-- The value of a position in one step: the best of the worst ranks of its moves.
-- One notion for both sides: until asks for the smallest over the moves of the largest over the replies, always the other way round.
use Rattle.std.specs.Prelude.{Bool, true, false, ◌⊎◌, ◌≡◌, ℕ, ◌+◌, ◌≤◌, ◌<◌}
use Rattle.game.specs.Position.{Arena, Position, IsPosition, number, Allowed}
use Rattle.game.specs.Inner.Facts.{CanForce, CanAnswer}
use Rattle.ways.specs.Extremes.{Beyond, Worst}
use Rattle.ways.specs.Places.{PlacedAt}

-- v is the most extreme of what was first and what was offered
pub record Gathered (most : Bool) (Offers : ℕ → Type 0) (first v : ℕ) : Type 0 where
  pub best : (w : ℕ) → Offers w → Beyond most w v
  pub kept : Beyond most first v
  pub some : (v ≡ first) ⊎ Offers v

-- a position's place is offered the worst rank over the replies to a move that is allowed there
abbrev pub MoveOffers : Arena → Bool → (ℕ → ℕ) → ℕ → ℕ → ℕ → ℕ → Type 0
MoveOffers G most rank s x m v = (p : Position) × PlacedAt G s x p × Allowed G p m × Worst G most rank p m v

-- one of the first n offers
abbrev pub OneOf : ℕ → (ℕ → ℕ → Type 0) → ℕ → Type 0
OneOf n offers v = (k : ℕ) × (k < n) × offers k v

-- until: the coalition attacks. Always: the opponents do
abbrev pub Attacks : Arena → Bool → Position → (Position → Type 0) → Type 0
Attacks G true = CanForce G
Attacks G false = CanAnswer G

abbrev pub Defends : Arena → Bool → Position → (Position → Type 0) → Type 0
Defends G true = CanAnswer G
Defends G false = CanForce G

-- no other move changes what becomes of the rank: the attack cannot come further, or the defence keeps the rank up
abbrev pub Final : Bool → ℕ → ℕ → Type 0
Final true rank v = v ≡ 0
Final false rank v = rank ≤ v + 1

-- in one step the defence holds the attack to rank v, and the attack comes there if that lowers the rank
pub record Valued (G : Arena) (most : Bool) (rank : ℕ → ℕ) (p : Position) (v : ℕ) : Type 0 where
  pub attack : v + 1 < rank (number G p) → Attacks G most p (λ x. rank (number G x) ≤ v)
  pub defend : Defends G most p (λ x. v ≤ rank (number G x))
  pub met : v + 1 < rank (number G p) → (x : Position) × IsPosition G x × (rank (number G x) ≡ v)
