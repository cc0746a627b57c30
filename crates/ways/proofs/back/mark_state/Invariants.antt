-- `mark_state` goes over the listed moves of the state.
use mathlib.Core.Bool.{true}
use Prim.Native.Nat.{ℕ, ◌-◌, ◌≤◌, ◌<◌}
use Rattle.game.specs.Model.{arena_of}
use Rattle.ways.specs.Back.{Leads, Marked}
use Rattle.ways.specs.Lines.{number_in}
use Rattle.ways.proofs.back.mark_state.Given as goal

-- one of the first k moves leads there
abbrev pub invariant-loop-k : goal.invariant-loop-k
invariant-loop-k l = (l.k ≤ l.n) × Marked (λ (z : ℕ). (j : ℕ) × (j < l.k) × Leads (arena_of l.block l.row.index) l.s z (number_in l.ways l.s true j) l.x) l.initial.flags l.flags

abbrev pub decreases-loop-k : goal.decreases-loop-k
decreases-loop-k l = l.n - l.k
