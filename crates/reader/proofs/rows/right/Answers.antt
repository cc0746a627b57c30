-- `right` reads the right field of a kind that has one.
use mathlib.Core.Path.{sym, ◌∙◌}
use Rattle.text.proofs.KindTests.{binary_is}
use Rattle.scan.proofs.Reading.{stopped}
use Rattle.reader.proofs.rows.right.Goals as goal

pub returns-in_err-right-clause-job_value : goal.returns-in_err-right-clause-job_value
returns-in_err-right-clause-job_value c = rw (sym (binary_is c.binary.ensures) ∙ c.if-not-binary.false) (λ f. c.in_err-right.ensures.by_index (λ v. f) ∙ stopped _ _ _ _ c.from_residual.ensures.1)

pub returns-clause-job_value : goal.returns-clause-job_value
returns-clause-job_value c = rw (sym (binary_is c.binary.ensures) ∙ c.if-not-binary.false) (λ f. c.in_ok-right.ensures.by_index (λ v. f))
