-- `list_pairs` goes over the first numbers, and lists with each the first second number that is enough and smaller than the last.
use Prim.Native.Nat.{◌≤◌}
use Rattle.allowances.proofs.Filling.{FilledTo}
use Rattle.allowances.specs.Inner.Asked.{Lent}
use Rattle.allowances.proofs.pairs.list_pairs.Given as goal

abbrev pub invariant-loop-x : goal.invariant-loop-x
invariant-loop-x l =
    (l.initial.x ≤ l.x) × ((l.x ≤ l.x-end) × FilledTo l.block l.ask.row l.ask.state l.initial.x l.ys.first l.ys.end l.list l.n l.x l.end)
    × Lent l.block l.ask l.copy l.ways l.ranks
