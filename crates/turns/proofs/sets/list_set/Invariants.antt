-- `list_set` takes the lowest state above those listed.
use Prim.Native.Nat.{◌≤◌}
use Rattle.turns.proofs.Listing.{Listing}
use Rattle.turns.proofs.sets.list_set.Given as goal

abbrev pub invariant-loop-k : goal.invariant-loop-k
invariant-loop-k l = (l.k ≤ l.n) × Listing l.set l.list l.k l.from
