-- Stocks as one number. Each is a digit in a base of twice as many as there are stocks, so that a bit above each is free: with these bits set, one
-- subtraction tells of all stocks at once whether there is enough.
use Rattle.std.specs.Prelude.{List, ◌≡◌, ℕ, zero, suc, ◌+◌, ◌*◌, ◌/◌, ◌%◌, ◌≤◌, ◌<◌, min}
use Rattle.game.specs.Position.{Arena, Position, IsPosition, number}
use Rattle.game.specs.Inner.Stocks.{stocks_of}
use Rattle.turns.specs.Sizes.{max_stocks}
use Rattle.ways.specs.Lines.{packed_in}

abbrev pub pack_base : ℕ
pack_base = 2 * max_stocks

-- the first n stocks, the last of them first, after what stands before
abbrev pub packed_from : ℕ → Position → ℕ → ℕ
packed_from zero p before = before
packed_from (suc n) p before = packed_from n p (before * pack_base + p.stock n)

-- w is the packed stocks at place x
abbrev pub PackedAt : Arena → ℕ → ℕ → Type 0
PackedAt G x w = (p : Position) → IsPosition G p → number G (stocks_of G p) ≡ x → w ≡ packed_from G.structure.resources p 0

-- the listing has the packed stocks of each stock place
abbrev pub Packs : Arena → List ℕ → Type 0
Packs G l = (p : Position) → IsPosition G p → packed_in l (number G (stocks_of G p)) ≡ packed_from G.structure.resources p 0

-- both digits of w are stocks
abbrev pub Narrow : ℕ → Type 0
Narrow w = (w % pack_base < max_stocks) × (w / pack_base < max_stocks)

-- what stands at place o can be taken from place x: each digit is at most the other's
abbrev pub Covers : List ℕ → ℕ → ℕ → Type 0
Covers l x o = (packed_in l o % pack_base ≤ packed_in l x % pack_base) × (packed_in l o / pack_base ≤ packed_in l x / pack_base)

-- the place of the stocks packed in x with those packed in g more, as far as there is room below those packed in `full`
abbrev pub filled_place : ℕ → ℕ → ℕ → ℕ
filled_place full x g = min (full % pack_base) ((x + g) % pack_base) * suc (full / pack_base) + min (full / pack_base) ((x + g) / pack_base)
