-- `full` goes over the resources as `number_up_to` does, with the largest stock of each.
use mathlib.Core.Path.{◌≡◌}
use Prim.Native.Nat.{◌≤◌}
use Rattle.game.specs.Position as P
use Rattle.game.specs.Position.{places, number_up_to}
use Rattle.game.specs.Model.{arena_of}
use Rattle.turns.proofs.positions.full.Given as goal

abbrev pub invariant-loop-j : goal.invariant-loop-j
invariant-loop-j l = (l.j ≤ l.n) × (l.x ≡ number_up_to (arena_of l.block l.i) l.j (P.full (arena_of l.block l.i) l.s))
