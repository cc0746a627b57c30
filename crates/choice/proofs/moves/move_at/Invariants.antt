-- `move_at` tries the listed moves from the smallest on until one is good.
use mathlib.Core.Bool.{true}
use Prim.Native.Nat.{ℕ, ◌-◌, ◌≤◌, ◌<◌}
use Rattle.game.specs.Position.{Position}
use Rattle.game.specs.Model.{arena_of}
use Rattle.rankings.specs.Kinds.{kind_of}
use Rattle.ways.specs.Lines.{number_in}
use Rattle.ways.specs.Places.{PlacedAt}
use Rattle.choice.specs.Choices.{GoodBy}
use Rattle.choice.proofs.moves.move_at.Given as goal

abbrev pub invariant-loop-k : goal.invariant-loop-k
invariant-loop-k l =
    (l.k ≤ l.n) × ((p : Position) → PlacedAt (arena_of l.block l.row.index) l.spot.state l.spot.place p → (j : ℕ) → j < l.k → GoodBy l.block l.row l.ranks (kind_of l.fn.goal) l.own p (number_in l.ways l.spot.state true j) → ⊥)

abbrev pub decreases-loop-k : goal.decreases-loop-k
decreases-loop-k l = l.n - l.k
