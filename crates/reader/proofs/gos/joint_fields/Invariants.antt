-- `joint_fields` goes past the actions of a joint action, agent by agent.
use Prim.Native.Nat.{◌≤◌, ◌-◌}
use lib.ListN.{length}
use Rattle.block.specs.Layout.{Block}
use Rattle.text.specs.Job as J
use Rattle.reader.proofs.Progress.{Reached}
use Rattle.reader.proofs.gos.joint_fields.Given as goal

abbrev pub invariant-loop-a : goal.invariant-loop-a
invariant-loop-a l = (l.next ≤ length l.text) × (l.a ≤ l.agents) × ((b : Block) → Reached (J.joint_fields l.joint) l.text l.agents l.initial.next b l.next b l.a)

abbrev pub decreases-loop-a : goal.decreases-loop-a
decreases-loop-a l = l.agents - l.a
