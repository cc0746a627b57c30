-- `cost` reads the cost of an action in a resource.
use mathlib.Core.Path.{◌∙◌}
use Rattle.scan.proofs.Reading.{stopped}
use Rattle.reader.proofs.actions.cost.Goals as goal

pub returns-in_err-cost-clause-job_value : goal.returns-in_err-cost-clause-job_value
returns-in_err-cost-clause-job_value c = λ f. c.in_err-cost.ensures.by_index (λ v. f) ∙ stopped _ _ _ _ c.from_residual.ensures.1

pub returns-clause-job_value : goal.returns-clause-job_value
returns-clause-job_value c = λ f. c.in_ok-cost.ensures.by_index (λ v. f)
