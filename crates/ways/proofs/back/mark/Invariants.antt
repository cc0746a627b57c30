-- `mark` goes over the states.
use Prim.Native.Nat.{ℕ, ◌-◌, ◌≤◌, ◌<◌}
use Rattle.ways.specs.Back.{LedIn, Marked}
use Rattle.ways.proofs.back.mark.Given as goal

-- a move of one of the first s states leads there
abbrev pub invariant-loop-s : goal.invariant-loop-s
invariant-loop-s l = (l.s ≤ l.n) × Marked (λ (z : ℕ). (q : ℕ) × (q < l.s) × LedIn l.block l.row q l.x z) l.initial.flags l.flags

abbrev pub decreases-loop-s : goal.decreases-loop-s
decreases-loop-s l = l.n - l.s
