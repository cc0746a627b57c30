-- `state_lines` writes the state, its agents and its joint actions.
use mathlib.Core.Path.{◌∙◌}
use Rattle.block.specs.Layout as L
use Rattle.block.specs.Layout.{max_joint}
use Rattle.text.specs.Job.{no_counts, state_lines, agent_lines, go_state, next_fields}
use Rattle.writer.specs.Inner.Writing.{written_sizes}
use Rattle.writer.proofs.states.state_lines.Goals as goal

pub returns-clause-past : goal.returns-clause-past
unfolding state_lines
returns-clause-past c = let z = written_sizes c.args.block.now in
    λ f.
    rw c.counts.ensures at (c.go_line.ensures.past f)
    ∙ c.agent_lines.ensures.past (λ counts. go_state z c.args.s (next_fields z c.args.s counts max_joint 0 f))
    ∙ c.state_line.ensures.past (agent_lines z c.args.s (L.agents c.args.block.now) 0 no_counts (λ counts. go_state z c.args.s (next_fields z c.args.s counts max_joint 0 f)))
