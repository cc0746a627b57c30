-- `complement` takes each state that is not in the set.
use Prim.Native.Nat.{ℕ, ◌-◌, ◌≤◌}
use Rattle.block.specs.Decide.{Bit}
use Rattle.solver.proofs.Words.{SaysBelow}
use Rattle.solver.proofs.rows.complement.Given as goal

abbrev pub Misses : ℕ → ℕ → Type 0
Misses set s = Bit set s → ⊥

abbrev pub invariant-loop-s : goal.invariant-loop-s
invariant-loop-s l = (l.s ≤ l.n) × SaysBelow (Misses l.set) l.s l.w

abbrev pub decreases-loop-s : goal.decreases-loop-s
decreases-loop-s l = l.n - l.s
