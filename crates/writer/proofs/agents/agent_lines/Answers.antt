-- `agent_lines` writes the acts lines in turn.
use mathlib.Core.Path.{◌≡◌, refl, sym, ◌∙◌}
use native.Mathlib.Omega.{arith}
use Rattle.writer.proofs.Writing.{collected_none, collected_more, collected_all}
use Rattle.writer.proofs.agents.agent_lines.Goals as goal

pub loop-a-init : goal.loop-a-init
loop-a-init c = (omega arith, ((omega arith, (refl, refl)), collected_none))

pub loop-a-preserved : goal.loop-a-preserved
loop-a-preserved c = (omega arith, ((omega arith, (cc, cc)), collected_more c.loop-a.invariant.1.1 (omega arith) c.acts_line.ensures.past))

pub returns-clause-past : goal.returns-clause-past
returns-clause-past c = let all : c.agents-agents.result ≡ c.loop-a.a = omega arith in
    collected_all (rw c.agents-agents.ensures at c.loop-a.invariant.1.1) (sym c.agents-agents.ensures ∙ all)
