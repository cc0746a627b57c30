-- A strategic row as it is played.
use Rattle.std.specs.Prelude.{◌≡◌, ◌<◌}
use Rattle.block.specs.Layout as L
use Rattle.block.specs.Layout.{Block}
use Rattle.game.specs.Inner.Stocks.{stock_places}
use Rattle.game.specs.Model.{arena_of}
use Rattle.ways.specs.declared.rows.Row.{Row}

-- the row is a strategic one of the block, with its stock places
pub record Playable (b : Block) (row : Row) : Type 0 where
  pub inside : row.index < L.rows b
  pub strategic : L.Strategic (L.kind b row.index)
  pub places_are : row.places ≡ stock_places (arena_of b row.index)

-- the same row, whatever is known of what its moves give
pub record SameRow (row r : Row) : Type 0 where
  pub index_same : r.index ≡ row.index
  pub into_same : r.into ≡ row.into
  pub set_same : r.set ≡ row.set
