-- `actions` writes the costs, action by action.
use Prim.Native.Nat.{◌*◌, ◌≤◌}
use Rattle.text.specs.Inner.Adding.{Within}
use Rattle.text.specs.Job as J
use Rattle.writer.specs.Inner.Lengths.{costs_bytes}
use Rattle.writer.specs.Inner.Writing.{written_sizes}
use Rattle.writer.proofs.Writing.{Looped}
use Rattle.writer.proofs.agents.actions.Given as goal

abbrev pub invariant-loop-k : goal.invariant-loop-k
invariant-loop-k l = (l.k ≤ l.actions) × (Within (costs_bytes * l.k) l.initial.out l.out × Looped (J.actions (written_sizes l.block) l.s l.a) l.actions l.block l.initial.out l.out l.k)
