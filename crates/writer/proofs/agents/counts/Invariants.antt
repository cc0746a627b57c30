-- `counts` gathers the counts, agent by agent.
use mathlib.Core.Path.{◌≡◌}
use Prim.Native.Nat.{◌≤◌}
use Rattle.text.specs.Inner.Fields.{counts_to}
use Rattle.writer.proofs.agents.counts.Given as goal

abbrev pub invariant-loop-a : goal.invariant-loop-a
invariant-loop-a l = (l.a ≤ l.agents) × (l.counts ≡ counts_to l.block l.s l.a)
