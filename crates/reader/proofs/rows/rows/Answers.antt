-- `rows` reads the lines of the rows.
use mathlib.Core.Path.{◌∙◌}
use native.Mathlib.Omega.{arith}
use Rattle.scan.proofs.Reading.{stopped}
use Rattle.reader.proofs.Progress.{reached_more, reached_stop, reached_all}
use Rattle.text.proofs.JobLoops.{rows_loop}
use Rattle.reader.proofs.rows.rows.Goals as goal

pub returns-in_err-next-clause-job_value : goal.returns-in_err-next-clause-job_value
returns-in_err-next-clause-job_value c =
    λ f. reached_stop (rows_loop _) c.loop-i.invariant.3 c.loop-i-test.true c.in_err-next.ensures.job_value f
    ∙ stopped _ _ _ _ c.from_residual.ensures.1

pub loop-i-preserved : goal.loop-i-preserved
loop-i-preserved c = (
  c.in_ok-next.ensures.inside_2,
  c.row.auto.job ∙ c.loop-i.invariant.1,
  omega arith,
  reached_more (rows_loop _) c.loop-i.invariant.3 c.loop-i-test.true c.in_ok-next.ensures.job_value,
)

pub returns-clause-job_value : goal.returns-clause-job_value
returns-clause-job_value c = reached_all (rows_loop _) c.loop-i.invariant.3 c.loop-i-test.false
