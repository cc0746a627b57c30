-- `list_effects` finds what one listed move after another takes and gives.
use mathlib.Core.Bool.{true}
use mathlib.Core.Path.{◌≡◌}
use Prim.Native.Nat.{ℕ, ◌+◌, ◌-◌, ◌≤◌, ◌<◌}
use Rattle.game.specs.Position.{full}
use Rattle.game.specs.Inner.Stocks.{offset, refill}
use Rattle.game.specs.Model.{arena_of}
use Rattle.ways.specs.Lines.{field_place, takes_at, number_in, taken_in, given_in}
use Rattle.ways.specs.Listing.{SameOutside}
use Rattle.ways.proofs.listing.list_effects.Given as goal

abbrev pub invariant-loop-k : goal.invariant-loop-k
invariant-loop-k l =
    (l.k ≤ l.n)
    × ((j : ℕ) → j < l.k
    → (taken_in l.ways l.s j ≡ offset (arena_of l.block l.i) (full (arena_of l.block l.i) l.s) (number_in l.initial.ways l.s true j))
    × (given_in l.ways l.s j ≡ refill (arena_of l.block l.i) (full (arena_of l.block l.i) l.s) (number_in l.initial.ways l.s true j)))
    × SameOutside (field_place l.s takes_at) (field_place (l.s + 1) 0) l.initial.ways l.ways

abbrev pub decreases-loop-k : goal.decreases-loop-k
decreases-loop-k l = l.n - l.k
