-- `worst_at` goes on from the rank where the first reply leads until one is past the limit.
use Prim.Native.Nat.{◌-◌, ◌≤◌, ◌<◌}
use Rattle.ways.specs.Extremes.{Extreme}
use Rattle.ways.specs.Landing.{rank_after}
use Rattle.ways.proofs.worst.worst_at.Given as goal

abbrev pub invariant-loop-k : goal.invariant-loop-k
invariant-loop-k l = ((1 ≤ l.k) × (l.k ≤ l.n)) × Extreme l.limit.most l.k (rank_after l.block l.row l.ways l.ranks l.step.state l.step.number l.step.place) l.best × (l.best < 65536)

abbrev pub decreases-loop-k : goal.decreases-loop-k
decreases-loop-k l = l.n - l.k
