-- The team's move at a position of a row made ready.
use Rattle.std.specs.Prelude.{◌≡◌, ℕ}
use Rattle.block.specs.Layout.{Block}
use Rattle.game.specs.Position.{Position, Allowed}
use Rattle.game.specs.Play.{CoalitionWins}
use Rattle.game.specs.Table.{no_move}
use Rattle.game.specs.Model.{arena_of, objective_of}
use Rattle.game.specs.Demand.{RowMove}
use Rattle.ways.specs.Listing.{Useful}
use Rattle.ways.specs.declared.rows.Row.{Row}

-- m is the team's move at p, one that is listed and that p pays; or it shows that the team does not win there
pub record SpotMove (b : Block) (i : ℕ) (row : Row) (p : Position) (m : ℕ) : Type 0 where
  pub none : m ≡ no_move → CoalitionWins (arena_of b i) (objective_of b i) p → ⊥
  pub move : (m ≡ no_move → ⊥) → RowMove b i p m
  pub listed : (m ≡ no_move → ⊥) → Useful b row p.state m × Allowed (arena_of b i) p m
