-- `actions` reads the costs of an agent's actions.
use mathlib.Core.Path.{◌∙◌}
use native.Mathlib.Omega.{arith}
use Rattle.scan.proofs.Reading.{stopped}
use Rattle.reader.proofs.Progress.{reached_more, reached_stop, reached_all}
use Rattle.text.proofs.JobLoops.{actions_loop}
use Rattle.reader.proofs.actions.actions.Goals as goal

pub returns-in_err-next-clause-job_value : goal.returns-in_err-next-clause-job_value
returns-in_err-next-clause-job_value c =
    λ f. reached_stop (actions_loop _ _ _) c.loop-k.invariant.3 c.loop-k-test.true c.in_err-next.ensures.job_value f
    ∙ stopped _ _ _ _ c.from_residual.ensures.1

pub loop-k-preserved : goal.loop-k-preserved
loop-k-preserved c = (
  c.in_ok-next.ensures.inside_2,
  c.costs.auto.job ∙ c.loop-k.invariant.1,
  omega arith,
  reached_more (actions_loop _ _ _) c.loop-k.invariant.3 c.loop-k-test.true c.in_ok-next.ensures.job_value,
)

pub returns-clause-job_value : goal.returns-clause-job_value
returns-clause-job_value c = reached_all (actions_loop _ _ _) c.loop-k.invariant.3 c.loop-k-test.false
