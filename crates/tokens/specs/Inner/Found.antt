-- What is found at a place of a text.
use Rattle.std.specs.Prelude.{List, ℕ, ◌≤◌, Option, Some, None, length, drop}
use Rattle.text.specs.Numeral.{Found, found, missing}
use Rattle.tokens.specs.declared.numeral.Found as place

-- the number found in the text, as a search finds it
abbrev pub found_at : List ℕ → Option place.Found → Found
found_at t (Some x) = found x.number (drop x.next t)
found_at t None = missing

-- the place after it lies within the text
abbrev pub InsideFound : List ℕ → Option place.Found → Type 0
InsideFound t (Some x) = x.next ≤ length t
InsideFound t None = Unit {0}
