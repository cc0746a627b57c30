-- The stocks of a position by a number of their own, and what a move takes of them and gives.
use Rattle.std.specs.Prelude.{ℕ, zero, suc, ◌*◌, ◌-◌, min}
use Rattle.game.specs.Rbatl.{Bound, limit, unlimited}
use Rattle.game.specs.Position.{Arena, Position, places, number, cost, charge}

-- what a move takes of a stock, all in all, and what it gives: no more than a stock holds
abbrev pub taken : Bound → ℕ → ℕ → ℕ
taken (limit n) c g = c - g
taken unlimited c g = 0

abbrev pub given : Bound → ℕ → ℕ → ℕ
given (limit n) c g = min n (g - c)
given unlimited c g = 0

module _ (G : Arena) where
  -- a position's stocks, which have a number of their own among the stock places of a state
  abbrev pub stocks_of : Position → Position
  stocks_of p = record { state = 0; stock = p.stock }

  -- how many stock places there are in each state
  abbrev pub stock_places_up_to : ℕ → ℕ
  stock_places_up_to zero = 1
  stock_places_up_to (suc n) = stock_places_up_to n * places (G.bounds n)

  abbrev pub stock_places : ℕ
  stock_places = stock_places_up_to G.structure.resources

  -- what a move takes of the stocks, and what it gives them, each as stocks with a number of their own
  abbrev pub takes : Position → ℕ → Position
  takes p m = record { state = 0; stock = λ r. taken (G.bounds r) (cost G p m r) (charge G p m r) }

  abbrev pub gives : Position → ℕ → Position
  gives p m = record { state = 0; stock = λ r. given (G.bounds r) (cost G p m r) (charge G p m r) }

  abbrev pub offset : Position → ℕ → ℕ
  offset p m = number G (takes p m)

  abbrev pub refill : Position → ℕ → ℕ
  refill p m = number G (gives p m)
