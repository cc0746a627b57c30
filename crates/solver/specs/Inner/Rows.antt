-- When a row is true in a state, with lower rows told by their sets and a strategic row by its ranks.
use Rattle.std.specs.Prelude.{List, ◌⊎◌, ◌≡◌, ℕ}
use Rattle.block.specs.Decide.{Bit}
use Rattle.block.specs.Layout as L
use Rattle.block.specs.Layout.{Block}
use Rattle.game.specs.Position.{number, full}
use Rattle.turns.specs.Buffers.{rank_in}
use Rattle.game.specs.Model.{by_kind, arena_of}
use Rattle.ways.specs.Listing.{Listed}
use Rattle.ways.specs.declared.rows.Row.{Row}
use Rattle.choice.specs.Choices.{Sought}
use Rattle.rankings.specs.Kinds.{ClaimsBy}
use Rattle.choice.specs.Tables.{RanksOf}

abbrev pub TrueBy : Block → ℕ → ℕ → ℕ → List ℕ → ℕ → Type 0
TrueBy b i left right ranks s =
    let claims = ClaimsBy (L.kind b i) (rank_in ranks (number (arena_of b i) (full (arena_of b i) s))) in
    by_kind (L.kind b i) (Bit (L.mask b s) (L.left b i)) (Bit left s → ⊥) (Bit left s ⊎ Bit right s) claims claims claims

-- row i as it is listed for its moves, whose lower rows' sets are left and right, and its ranks
pub record RowRanked (b : Block) (i left right : ℕ) (row : Row) (ways ranks : List ℕ) : Type 0 where
  pub sought : Sought b row (L.kind b row.index)
  pub listed : Listed b row ways
  pub index_is : row.index ≡ i
  pub set_is : row.set ≡ left
  pub ranks_of : RanksOf b i left right ranks
