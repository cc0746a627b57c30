-- `next_states` fills one state after another.
use mathlib.Core.Path.{◌≡◌}
use Prim.Native.Nat.{◌*◌, ◌-◌, ◌≤◌}
use lib.ListN.{length}
use Rattle.turns.specs.Buffers.{rank_in}
use Rattle.choice.specs.Filling.{FilledTo, NextRight}
use Rattle.choice.proofs.next.next_states.Given as goal

abbrev pub invariant-loop-s : goal.invariant-loop-s
invariant-loop-s l = (l.s ≤ l.n) × FilledTo rank_in (NextRight l.block l.row.index l.row.set) (l.s * l.row.places) l.ranks × (length l.ranks ≡ length l.initial.ranks)

abbrev pub decreases-loop-s : goal.decreases-loop-s
decreases-loop-s l = l.n - l.s
