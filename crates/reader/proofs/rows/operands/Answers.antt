-- `operands` reads the left field and the right field.
use mathlib.Core.Bool.{cond}
use mathlib.Core.Path.{◌∙◌}
use Rattle.block.specs.declared.layout.Place.TheVariants.{Field}
use Rattle.text.specs.Format.{Format, value}
use Rattle.text.specs.Job as J
use Rattle.scan.proofs.Reading.{stopped}
use Rattle.reader.proofs.rows.operands.Goals as goal

pub returns-in_err-left-clause-job_value : goal.returns-in_err-left-clause-job_value
unfolding J.operand_fields
returns-in_err-left-clause-job_value c =
    let last : Format → Format = λ f. cond (J.binary c.args.k) (value (J.right_spelling c.args.i) (Field c.args.i 2) (λ r. f)) f in
    let turn = rw (c.left_end.ensures.0, c.left_limit.ensures) at c.in_err-left.ensures.by_index in
    λ f. turn (λ l. last f) ∙ stopped _ _ _ _ c.from_residual.ensures.1

pub returns-clause-job_value : goal.returns-clause-job_value
unfolding J.operand_fields
returns-clause-job_value c =
    let last : Format → Format = λ f. cond (J.binary c.args.k) (value (J.right_spelling c.args.i) (Field c.args.i 2) (λ r. f)) f in
    let turn = rw (c.left_end.ensures.0, c.left_limit.ensures) at c.in_ok-left.ensures.by_index in
    λ f. turn (λ l. last f) ∙ c.right.ensures.job_value f
