-- `fill_states` fills one state after another.
use mathlib.Core.Path.{◌≡◌}
use Prim.Native.Nat.{◌*◌, ◌-◌, ◌≤◌}
use lib.ListN.{length}
use Rattle.choice.specs.Filling.{byte_in, FilledTo, MoveRight}
use Rattle.choice.proofs.tables.fill_states.Given as goal

abbrev pub invariant-loop-s : goal.invariant-loop-s
invariant-loop-s l = (l.s ≤ l.n) × FilledTo byte_in (MoveRight l.block l.row.index l.row.set l.ranks) (l.s * l.row.places) l.moves × (length l.moves ≡ length l.initial.moves)

abbrev pub decreases-loop-s : goal.decreases-loop-s
decreases-loop-s l = l.n - l.s
