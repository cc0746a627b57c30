-- `find_reply` tries the listed replies from the smallest on until one counters.
use mathlib.Core.Bool.{false}
use Prim.Native.Nat.{ℕ, ◌+◌, ◌*◌, ◌-◌, ◌≤◌, ◌<◌}
use Rattle.block.specs.Layout as L
use Rattle.turns.specs.Buffers.{rank_in}
use Rattle.ways.specs.Lines.{number_in}
use Rattle.rankings.specs.Kinds.{CounterBy, kind_of}
use Rattle.choice.proofs.replies.find_reply.Given as goal

abbrev pub invariant-loop-k : goal.invariant-loop-k
invariant-loop-k l =
    (l.k ≤ l.n) × ((j : ℕ) → j < l.k → CounterBy (kind_of l.aim.goal) l.row.set l.aim.own (L.next l.block l.step.state (l.step.number + number_in l.ways l.step.state false j)) (rank_in l.ranks (L.next l.block l.step.state (l.step.number + number_in l.ways l.step.state false j) * l.row.places + l.step.place)) → ⊥)

abbrev pub decreases-loop-k : goal.decreases-loop-k
decreases-loop-k l = l.n - l.k
