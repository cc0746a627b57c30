-- `actions` reads the costs of an agent's actions.
use mathlib.Core.Path.{◌≡◌}
use Prim.Native.Nat.{◌≤◌, ◌-◌}
use lib.ListN.{length}
use Rattle.block.specs.Layout.{block_bytes}
use Rattle.text.specs.Job as J
use Rattle.reader.proofs.Progress.{Reached}
use Rattle.reader.proofs.actions.actions.Given as goal

abbrev pub invariant-loop-k : goal.invariant-loop-k
invariant-loop-k l = (l.next ≤ length l.text) × (length l.job ≡ block_bytes) × (l.k ≤ l.actions) × Reached (J.actions l.z l.s l.a) l.text l.actions l.initial.next l.initial.job l.next l.job l.k

abbrev pub decreases-loop-k : goal.decreases-loop-k
decreases-loop-k l = l.actions - l.k
