-- `states` reads the lines of the states.
use mathlib.Core.Path.{◌∙◌}
use native.Mathlib.Omega.{arith}
use Rattle.scan.proofs.Reading.{stopped}
use Rattle.reader.proofs.Progress.{reached_more, reached_stop, reached_all}
use Rattle.text.proofs.JobLoops.{states_loop}
use Rattle.reader.proofs.states.states.Goals as goal

pub returns-in_err-next-clause-job_value : goal.returns-in_err-next-clause-job_value
returns-in_err-next-clause-job_value c =
    λ f. reached_stop (states_loop _) c.loop-s.invariant.3 c.loop-s-test.true c.in_err-next.ensures.job_value f
    ∙ stopped _ _ _ _ c.from_residual.ensures.1

pub loop-s-preserved : goal.loop-s-preserved
loop-s-preserved c = (
  c.in_ok-next.ensures.inside_2,
  c.state_lines.auto.job ∙ c.loop-s.invariant.1,
  omega arith,
  reached_more (states_loop _) c.loop-s.invariant.3 c.loop-s-test.true c.in_ok-next.ensures.job_value,
)

pub returns-clause-job_value : goal.returns-clause-job_value
returns-clause-job_value c = reached_all (states_loop _) c.loop-s.invariant.3 c.loop-s-test.false
