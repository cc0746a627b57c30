-- `moves` reads the agents' lines and keeps their counts, then the lines of the joint actions.
use mathlib.Core.Path.{◌≡◌}
use Prim.Native.Nat.{◌≤◌, ◌-◌}
use lib.ListN.{length}
use Rattle.block.specs.Layout.{block_bytes}
use Rattle.text.specs.Job as J
use Rattle.reader.proofs.Progress.{Collected}
use Rattle.reader.proofs.states.moves.Given as goal

abbrev pub invariant-loop-a : goal.invariant-loop-a
invariant-loop-a l =
    (l.next ≤ length l.text) × (length l.job ≡ block_bytes) × (l.a ≤ l.z.agents) × (length l.counts ≡ 3) ×
    Collected (λ left i. J.acts_line l.z l.s i) l.text l.z.agents J.no_counts l.initial.next l.initial.job l.next l.job l.counts l.a

abbrev pub decreases-loop-a : goal.decreases-loop-a
decreases-loop-a l = l.z.agents - l.a
