-- Stock places: the stocks of a state's positions by their number.
use Rattle.std.specs.Prelude.{◌≡◌, ℕ}
use Rattle.game.specs.Position.{Arena, Position, IsPosition, number}
use Rattle.game.specs.Inner.Stocks.{stocks_of}

-- p is a position in state s whose stocks have number x
pub record PlacedAt (G : Arena) (s x : ℕ) (p : Position) : Type 0 where
  pub fits : IsPosition G p
  pub state : p.state ≡ s
  pub place : number G (stocks_of G p) ≡ x
