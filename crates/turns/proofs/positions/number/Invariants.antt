-- `number` goes over the resources as `number_up_to` does.
use mathlib.Core.Path.{◌≡◌}
use Prim.Native.Nat.{◌≤◌}
use Rattle.game.specs.Position.{position, number_up_to}
use Rattle.game.specs.Model.{arena_of}
use Rattle.turns.proofs.positions.number.Given as goal

abbrev pub invariant-loop-j : goal.invariant-loop-j
invariant-loop-j l = (l.j ≤ l.n) × (l.x ≡ number_up_to (arena_of l.block l.i) l.j (position l.s l.stocks))
