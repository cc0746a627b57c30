-- A move at a stock place, and the worst of its outcomes.
use Rattle.std.specs.Prelude.{Option, None, Some, Bool, false, not, List, ◌≡◌, ℕ, ◌+◌, ◌*◌, ◌<◌}
use Rattle.block.specs.Layout as L
use Rattle.block.specs.Layout.{Block}
use Rattle.game.specs.Position.{Arena, Position, IsPosition, MoveOf, number, Affordable, outcome}
use Rattle.game.specs.Inner.Stocks.{stocks_of, stock_places}
use Rattle.game.specs.Model.{structure_of, coalition_of, arena_of}
use Rattle.turns.specs.Buffers.{rank_in}
use Rattle.ways.specs.Lines.{number_in}
use Rattle.ways.specs.Extremes.{Further, Worst}
use Rattle.ways.specs.Packed.{Covers}
use Rattle.ways.specs.Places.{PlacedAt}
use Rattle.ways.specs.declared.rows.Row.{Row}

-- what is left of stock place x when o is taken of it, or that it has not so much
abbrev pub Remains : List ℕ → ℕ → ℕ → Option ℕ → Type 0
Remains ways x o (Some y) = Covers ways x o × (y + o ≡ x)
Remains ways x o None = Covers ways x o → ⊥

-- the stocks that the move m leaves of p have number y
abbrev pub Leaves : Arena → Position → ℕ → ℕ → Type 0
Leaves G p m y = (r : ℕ) → number G (stocks_of G (outcome G p m r)) ≡ y

-- the move m at stock place x of state s: the place that it leads to, or that the place cannot pay it
abbrev pub Lands : Arena → ℕ → ℕ → ℕ → Option ℕ → Type 0
Lands G s x m (Some y) = (y < stock_places G) × ((p : Position) → PlacedAt G s x p → Affordable G p m × Leaves G p m y)
Lands G s x m None = (p : Position) → PlacedAt G s x p → Affordable G p m → ⊥

-- m is a move in state s, and y a stock place
abbrev pub Made : Block → Row → ℕ → ℕ → ℕ → Type 0
Made b row s m y = (s < L.states b) × MoveOf (structure_of b) (coalition_of b row.index) s m × (y < row.places)

-- the rank where the k-th listed reply leads
abbrev pub rank_after : Block → Row → List ℕ → List ℕ → ℕ → ℕ → ℕ → ℕ → ℕ
rank_after b row ways ranks s m y k = rank_in ranks (L.next b s (m + number_in ways s false k) * row.places + y)

-- v is the worst rank over the replies to the move m, from any position that it leaves with the stocks of place y, or a limit that it does not get past
abbrev pub WorstWithin : Block → Row → List ℕ → ℕ → ℕ → ℕ → Bool → ℕ → ℕ → Type 0
WorstWithin b row ranks s m y most limit v =
    (p : Position) → IsPosition (arena_of b row.index) p → p.state ≡ s → Leaves (arena_of b row.index) p m y
    → (worst : ℕ) × Worst (arena_of b row.index) most (rank_in ranks) p m worst × Further (not most) worst limit v
