-- `fill_places` stores one move after another.
use mathlib.Core.Path.{◌≡◌}
use Prim.Native.Nat.{◌+◌, ◌*◌, ◌-◌, ◌≤◌}
use lib.ListN.{length}
use Rattle.choice.specs.Filling.{byte_in, FilledTo, MoveRight}
use Rattle.choice.proofs.tables.fill_places.Given as goal

abbrev pub invariant-loop-x : goal.invariant-loop-x
invariant-loop-x l = (l.x ≤ l.c) × FilledTo byte_in (MoveRight l.block l.row.index l.row.set l.ranks) (l.s * l.row.places + l.x) l.moves × (length l.moves ≡ length l.initial.moves)

abbrev pub decreases-loop-x : goal.decreases-loop-x
decreases-loop-x l = l.c - l.x
