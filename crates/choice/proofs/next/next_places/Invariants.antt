-- `next_places` stores one rank after another.
use mathlib.Core.Path.{◌≡◌}
use Prim.Native.Nat.{◌+◌, ◌*◌, ◌-◌, ◌≤◌}
use lib.ListN.{length}
use Rattle.turns.specs.Buffers.{rank_in}
use Rattle.choice.specs.Filling.{FilledTo, NextRight}
use Rattle.choice.proofs.next.next_places.Given as goal

abbrev pub invariant-loop-x : goal.invariant-loop-x
invariant-loop-x l = (l.x ≤ l.c) × FilledTo rank_in (NextRight l.block l.row.index l.row.set) (l.s * l.row.places + l.x) l.ranks × (length l.ranks ≡ length l.initial.ranks)

abbrev pub decreases-loop-x : goal.decreases-loop-x
decreases-loop-x l = l.c - l.x
