-- A buffer with an entry for each position, a byte or a word, filled in the order of the numbers.
use Rattle.std.specs.Prelude.{List, ◌⊎◌, ◌≡◌, ℕ, ◌≤◌, ◌<◌, get_or}
use Rattle.block.specs.Decide.{Bit}
use Rattle.block.specs.Layout.{Block}
use Rattle.game.specs.Position.{Position, IsPosition, number}
use Rattle.game.specs.Table.{never}
use Rattle.game.specs.Inner.Facts.{CanForce, CanAnswer}
use Rattle.game.specs.Model.{arena_of}
use Rattle.choice.specs.Tables.{RanksOf, MoveFor}

abbrev pub byte_in : List ℕ → ℕ → ℕ
byte_in l n = get_or l n 0

-- the entries below n are right, and from there on they are 0
pub record FilledTo (entry : List ℕ → ℕ → ℕ) (Right : ℕ → ℕ → Type 0) (n : ℕ) (l : List ℕ) : Type 0 where
  pub below : (k : ℕ) → k < n → Right k (entry l k)
  pub rest : (k : ℕ) → n ≤ k → entry l k ≡ 0

-- m is the move at the position with number n, where the ranks are those of row i
abbrev pub MoveRight : Block → ℕ → ℕ → List ℕ → ℕ → ℕ → Type 0
MoveRight b i left ranks n m =
    (right : ℕ) → RanksOf b i left right ranks → (p : Position) → IsPosition (arena_of b i) p → number (arena_of b i) p ≡ n → MoveFor b i left right ranks p m

-- v is the rank of the position with number n in a next row over the set
abbrev pub NextRight : Block → ℕ → ℕ → ℕ → ℕ → Type 0
NextRight b i set n v =
    (p : Position) → IsPosition (arena_of b i) p → number (arena_of b i) p ≡ n
    → ((v ≡ 1) × CanForce (arena_of b i) p (λ x. Bit set x.state)) ⊎ ((v ≡ never) × CanAnswer (arena_of b i) p (λ x. Bit set x.state → ⊥))
