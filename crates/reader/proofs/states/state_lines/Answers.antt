-- `state_lines` reads the lines of a state.
use mathlib.Core.Path.{◌∙◌}
use Rattle.block.specs.Layout.{max_joint}
use Rattle.text.specs.Job as J
use Rattle.scan.proofs.Reading.{stopped}
use Rattle.reader.proofs.states.state_lines.Goals as goal

pub returns-in_err-next-clause-job_value : goal.returns-in_err-next-clause-job_value
unfolding J.state_lines
returns-in_err-next-clause-job_value c =
    λ f. c.in_err-next.ensures.job_value (J.agent_lines c.args.z c.args.s c.args.z.agents 0 J.no_counts (λ counts. J.go_state c.args.z c.args.s (J.next_fields c.args.z c.args.s counts max_joint 0 f)))
    ∙ stopped _ _ _ _ c.from_residual.ensures.1

pub returns-clause-job_value : goal.returns-clause-job_value
unfolding J.state_lines
returns-clause-job_value c =
    λ f. c.in_ok-next.ensures.job_value (J.agent_lines c.args.z c.args.s c.args.z.agents 0 J.no_counts (λ counts. J.go_state c.args.z c.args.s (J.next_fields c.args.z c.args.s counts max_joint 0 f)))
    ∙ c.moves.ensures.job_value f
