-- `moves` reads the agents' lines and keeps their counts, then the lines of the joint actions.
use mathlib.Core.Path.{◌∙◌}
use native.Mathlib.Omega.{arith}
use lib.ListN.{length-set}
use Rattle.block.specs.Layout.{max_joint}
use Rattle.text.specs.Job as J
use Rattle.reader.proofs.Progress.{collected_more, collected_stop, collected_all}
use Rattle.scan.proofs.Reading.{stopped}
use Rattle.reader.proofs.states.moves.Goals as goal

pub returns-in_err-agent-clause-job_value : goal.returns-in_err-agent-clause-job_value
returns-in_err-agent-clause-job_value c =
    λ f. collected_stop c.loop-a.invariant.4 c.loop-a-test.true c.in_err-agent.ensures.by_index (λ counts. J.go_state c.args.z c.args.s (J.next_fields c.args.z c.args.s counts max_joint 0 f))
    ∙ stopped _ _ _ _ c.from_residual.ensures.1

pub loop-a-preserved : goal.loop-a-preserved
loop-a-preserved c = (
  c.in_ok-agent.ensures.inside_2,
  c.acts.auto.job ∙ c.loop-a.invariant.1,
  omega arith,
  length-set c.loop-a.counts c.loop-a.a c.in_ok-agent.agent.value ∙ c.loop-a.invariant.3,
  collected_more c.loop-a.invariant.4 c.in_ok-agent.agent.value c.loop-a-test.true c.in_ok-agent.ensures.by_index,
)

pub returns-clause-job_value : goal.returns-clause-job_value
returns-clause-job_value c =
    λ f. collected_all c.loop-a.invariant.4 c.loop-a-test.false (λ counts. J.go_state c.args.z c.args.s (J.next_fields c.args.z c.args.s counts max_joint 0 f))
    ∙ c.gos.ensures.job_value f
