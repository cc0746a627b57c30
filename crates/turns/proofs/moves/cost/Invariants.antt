-- `cost` adds up what the team's agents take and give; `rest` and `k` hold what is left of the team and of the move.
use mathlib.Core.Path.{◌≡◌}
use Prim.Native.Nat.{◌/◌, ◌^◌, ◌≤◌}
use Rattle.turns.proofs.Totals.{TotalTo}
use Rattle.turns.proofs.moves.cost.Given as goal

abbrev pub invariant-loop-a : goal.invariant-loop-a
invariant-loop-a l =
    (l.a ≤ l.n) × TotalTo l.block l.team l.m l.s l.j l.a l.total × (l.rest ≡ l.team / 2 ^ l.a) × (l.k ≡ l.m / 4 ^ l.a)
