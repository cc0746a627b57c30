-- `agent_lines` writes the acts lines in turn.
use Prim.Native.Nat.{◌*◌, ◌≤◌}
use Rattle.text.specs.Inner.Adding.{Within}
use Rattle.block.specs.Layout.{count}
use Rattle.text.specs.Job as J
use Rattle.writer.specs.Inner.Lengths.{acts_line_bytes}
use Rattle.writer.specs.Inner.Writing.{written_sizes}
use Rattle.writer.proofs.Writing.{Collected}
use Rattle.writer.proofs.agents.agent_lines.Given as goal

abbrev pub invariant-loop-a : goal.invariant-loop-a
invariant-loop-a l = (l.a ≤ l.agents) × (Within (acts_line_bytes * l.a) l.initial.out l.out × Collected (λ left i. J.acts_line (written_sizes l.block) l.s i) (count l.block l.s) J.no_counts l.agents l.block l.initial.out l.out l.a)
