-- `store_ranks` stores one rank after another.
use Prim.Native.Nat.{◌-◌, ◌≤◌}
use Rattle.ways.specs.First.{SpanStored}
use Rattle.ways.proofs.first.store_ranks.Given as goal

abbrev pub invariant-loop-p : goal.invariant-loop-p
invariant-loop-p l = (l.first ≤ l.p) × (l.p ≤ l.end) × SpanStored l.first l.p l.rank l.initial.ranks l.ranks

abbrev pub decreases-loop-p : goal.decreases-loop-p
decreases-loop-p l = l.end - l.p
