-- What the ranks and moves of a row's table have to be while lower rows are told by their sets.
use Rattle.std.specs.Prelude.{List, ◌≡◌, ℕ, ◌≤◌, ◌<◌, get_or}
use Rattle.block.specs.Decide.{Bit}
use Rattle.block.specs.Layout as L
use Rattle.block.specs.Layout.{Block}
use Rattle.game.specs.Position.{Position, IsPosition, number, positions}
use Rattle.game.specs.Play.{next}
use Rattle.game.specs.Table.{Table, MoveIs, ReplyIs}
use Rattle.game.specs.Inner.Facts.{RankFacts, Claims}
use Rattle.turns.specs.Buffers.{rank_in}
use Rattle.game.specs.Model.{arena_of}
use Rattle.game.specs.Inner.Words.{objective_by}
use Rattle.turns.specs.Sizes.{max_positions}

-- the ranks of a buffer, with any moves
abbrev pub table_with : List ℕ → (ℕ → ℕ) → Table
table_with ranks move = record { rank = rank_in ranks; move = move }

-- the ranks of row i, whose lower rows' sets are the words left and right; past the last position they are 0
pub record RanksOf (b : Block) (i left right : ℕ) (ranks : List ℕ) : Type 0 where
  pub facts : RankFacts (arena_of b i) (objective_by (L.kind b i) left right) (λ p. rank_in ranks (number (arena_of b i) p))
  pub outside : (n : ℕ) → positions (arena_of b i) ≤ n → n < max_positions → rank_in ranks n ≡ 0

module _ (b : Block) (i left right : ℕ) (ranks : List ℕ) where
  -- m is the move at p that goes with these ranks, whatever other moves a table has
  abbrev pub MoveFor : Position → ℕ → Type 0
  MoveFor p m =
      (move : ℕ → ℕ) → MoveIs (arena_of b i) (table_with ranks move) (objective_by (L.kind b i) left right) (Claims (arena_of b i) (table_with ranks move) (objective_by (L.kind b i) left right)) p m

  -- and r the reply to the move m
  abbrev pub ReplyFor : Position → ℕ → ℕ → Type 0
  ReplyFor p m r =
      (move : ℕ → ℕ) → ReplyIs (arena_of b i) (table_with ranks move) (objective_by (L.kind b i) left right) (Claims (arena_of b i) (table_with ranks move) (objective_by (L.kind b i) left right)) p m r

-- the moves that go with these ranks; past the last position they are 0
pub record MovesOf (b : Block) (i left right : ℕ) (ranks moves : List ℕ) : Type 0 where
  pub each : (p : Position) → IsPosition (arena_of b i) p → MoveFor b i left right ranks p (get_or moves (number (arena_of b i) p) 0)
  pub outside : (n : ℕ) → positions (arena_of b i) ≤ n → n < max_positions → get_or moves n 0 ≡ 0

-- the ranks of a next row over the set, and 0 past the last position
pub record NextRanks (b : Block) (i set : ℕ) (ranks : List ℕ) : Type 0 where
  pub facts : RankFacts (arena_of b i) (next (Bit set)) (λ p. rank_in ranks (number (arena_of b i) p))
  pub outside : (n : ℕ) → positions (arena_of b i) ≤ n → n < max_positions → rank_in ranks n ≡ 0
