-- `stock_places` multiplies the stock places of the resources.
use mathlib.Core.Path.{◌≡◌}
use Prim.Native.Nat.{◌≤◌}
use Rattle.game.specs.Inner.Stocks.{stock_places_up_to}
use Rattle.game.specs.Model.{arena_of}
use Rattle.turns.proofs.positions.stock_places.Given as goal

abbrev pub invariant-loop-j : goal.invariant-loop-j
invariant-loop-j l = (l.j ≤ l.n) × (l.c ≡ stock_places_up_to (arena_of l.block l.i) l.j)
