-- `bounds` reads the bounds of a row, resource by resource.
use mathlib.Core.Path.{◌∙◌}
use native.Mathlib.Omega.{arith}
use Rattle.scan.proofs.Reading.{stopped}
use Rattle.reader.proofs.Progress.{reached_more, reached_stop, reached_all}
use Rattle.text.proofs.JobLoops.{each_loop}
use Rattle.reader.proofs.rows.bounds.Goals as goal

pub returns-in_err-bound-clause-job_value : goal.returns-in_err-bound-clause-job_value
returns-in_err-bound-clause-job_value c =
    λ f. reached_stop (each_loop _ _) c.loop-j.invariant.3 c.loop-j-test.true (λ f. c.in_err-bound.ensures.by_index (λ v. f)) f
    ∙ stopped _ _ _ _ c.from_residual.ensures.1

pub loop-j-preserved : goal.loop-j-preserved
loop-j-preserved c = (
  c.in_ok-bound.ensures.inside_with.1,
  c.spelled.auto.job ∙ c.loop-j.invariant.1,
  omega arith,
  reached_more (each_loop _ _) c.loop-j.invariant.3 c.loop-j-test.true (λ f. c.in_ok-bound.ensures.by_index (λ v. f)),
)

pub returns-clause-job_value : goal.returns-clause-job_value
returns-clause-job_value c = reached_all (each_loop _ _) c.loop-j.invariant.3 c.loop-j-test.false
