-- `first_staying` looks for a move that is paid and leads to nothing that is ranked.
use Prim.Native.Nat.{ℕ, ◌-◌, ◌≤◌, ◌<◌}
use Rattle.stages.specs.Stages.{Stays}
use Rattle.stages.proofs.staying.first_staying.Given as goal

abbrev pub invariant-loop-k : goal.invariant-loop-k
invariant-loop-k l = (l.from ≤ l.k) × (l.k ≤ l.n) × ((j : ℕ) → j < l.k → (l.from ≤ j) × Stays l.block l.row l.ways l.board l.spot.state l.spot.place j → ⊥)

abbrev pub decreases-loop-k : goal.decreases-loop-k
decreases-loop-k l = l.n - l.k
