-- `first_enough` goes down from the end as far as numbers are enough; below one that is not, none is.
use Prim.Native.Nat.{◌≤◌, ◌<◌}
use Rattle.allowances.specs.Inner.Pairs.{Enough}
use Rattle.allowances.specs.Inner.Asked.{Lent}
use Rattle.allowances.proofs.pairs.first_enough.Given as goal

abbrev pub invariant-loop-y : goal.invariant-loop-y
invariant-loop-y l =
    ((l.fn.range.first ≤ l.y) × (l.y ≤ l.initial.y)) × (l.y < l.initial.y → Enough l.block l.ask.row l.ask.state l.x l.y) × Lent l.block l.ask l.copy l.ways l.ranks
