-- `costs` writes the costs of an action, resource by resource.
use Prim.Native.Nat.{◌*◌, ◌≤◌}
use Rattle.text.specs.Inner.Adding.{Within}
use Rattle.text.specs.Job as J
use Rattle.writer.specs.Inner.Lengths.{field_bytes}
use Rattle.writer.specs.Inner.Writing.{written_sizes}
use Rattle.writer.proofs.Writing.{Looped}
use Rattle.writer.proofs.agents.costs.Given as goal

abbrev pub invariant-loop-j : goal.invariant-loop-j
invariant-loop-j l = (l.j ≤ l.resources) × (Within (field_bytes * l.j) l.initial.out l.out × Looped (J.costs (written_sizes l.block) l.s l.a l.n l.k) l.resources l.block l.initial.out l.out l.j)
