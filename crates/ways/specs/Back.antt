-- From which stock places a listed move leads to a place: where ranks fell at a place, those of these places can fall too.
use Rattle.std.specs.Prelude.{List, ◌≡◌, ℕ, suc, ◌+◌, ◌*◌, ◌-◌, ◌/◌, ◌%◌, ◌≤◌, ◌<◌, min, get_or, length}
use Rattle.block.specs.Layout as L
use Rattle.block.specs.Layout.{Block}
use Rattle.game.specs.Position.{Arena, Position, Affordable}
use Rattle.game.specs.Model.{arena_of}
use Rattle.turns.specs.Sizes.{max_stock_places}
use Rattle.ways.specs.Landing.{Leaves}
use Rattle.ways.specs.Listing.{Useful}
use Rattle.ways.specs.Packed.{pack_base}
use Rattle.ways.specs.Places.{PlacedAt}
use Rattle.ways.specs.declared.rows.Row.{Row}
use Rattle.ways.specs.declared.back.Span.{Span}

-- from stock place z of state s the move m leads to place x
abbrev pub Leads : Arena → ℕ → ℕ → ℕ → ℕ → Type 0
Leads G s z m x = (p : Position) × PlacedAt G s z p × Affordable G p m × Leaves G p m x

-- some listed move of state s leads there from z, and some listed move of any state
abbrev pub LedIn : Block → Row → ℕ → ℕ → ℕ → Type 0
LedIn b row s x z = (m : ℕ) × Useful b row s m × Leads (arena_of b row.index) s z m x

abbrev pub LedFrom : Block → Row → ℕ → ℕ → Type 0
LedFrom b row x z = (s : ℕ) × (s < L.states b) × LedIn b row s x z

-- a stock z, of which t is taken and to which g is given, no further than f, comes to x
pub record Comes (f x t g z : ℕ) : Type 0 where
  pub enough : t ≤ z
  pub within : z ≤ f
  pub to : x ≡ min f (z - t + g)

-- and such stocks at place z, each a digit of packed ones
abbrev pub ComesAt : ℕ → ℕ → ℕ → ℕ → ℕ → Type 0
ComesAt f x t g z =
    (low : ℕ) × (high : ℕ) × (z ≡ low * suc (f / pack_base) + high)
    × Comes (f % pack_base) (x % pack_base) (t % pack_base) (g % pack_base) low
    × Comes (f / pack_base) (x / pack_base) (t / pack_base) (g / pack_base) high

-- the numbers of a span
abbrev pub InSpan : Span → ℕ → Type 0
InSpan s n = (s.first ≤ n) × (n ≤ s.last)

-- the places with a number of each span
abbrev pub InBox : Span → Span → ℕ → ℕ → Type 0
InBox low high width z = (a : ℕ) × (h : ℕ) × (z ≡ a * width + h) × InSpan low a × InSpan high h

-- a flag for each stock place, 0 or 1
pub record Flags (l : List ℕ) : Type 0 where
  pub bits : (z : ℕ) → get_or l z 0 ≤ 1
  pub long : length l ≡ max_stock_places

-- places of which Q holds are flagged now, and those that were are so still
pub record Marked (Q : ℕ → Type 0) (l l' : List ℕ) : Type 0 where
  pub each : (z : ℕ) → z < max_stock_places → Q z → get_or l' z 0 ≡ 1
  pub still : (z : ℕ) → get_or l z 0 ≡ 1 → get_or l' z 0 ≡ 1
  pub flags : Flags l → Flags l'
  pub long : length l' ≡ length l
