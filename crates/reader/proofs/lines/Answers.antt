-- `lines` reads the header, the states and the rows.
use mathlib.Core.Path.{◌∙◌}
use Rattle.text.specs.declared.sizes.Sizes.{Sizes}
use Rattle.text.specs.Format.{Format, end}
use Rattle.text.specs.Job as J
use Rattle.scan.proofs.Reading.{stopped}
use Rattle.reader.proofs.lines.Goals as goal

from_states : Sizes → Format
from_states z = J.states z z.states 0 (J.row_lines z z.rows 0 end)

pub returns-in_err-header-clause-text_value : goal.returns-in_err-header-clause-text_value
unfolding J.job from_states
returns-in_err-header-clause-text_value c =
    let first = rw c.edition.ensures at c.in_err-header.ensures.text_value in
    first from_states ∙ stopped _ _ _ _ c.from_residual.ensures.1

pub returns-in_err-next-clause-text_value : goal.returns-in_err-next-clause-text_value
unfolding J.job from_states
returns-in_err-next-clause-text_value c =
    let first = rw c.edition.ensures at c.in_ok-header.ensures.text_value in
    let z = c.in_ok-header.header.value in
    first from_states ∙ c.in_err-next.ensures.job_value (J.row_lines z z.rows 0 end) ∙ stopped _ _ _ _ c.from_residual-in_err-next.ensures.1

pub returns-clause-text_value : goal.returns-clause-text_value
unfolding J.job from_states
returns-clause-text_value c =
    let first = rw c.edition.ensures at c.in_ok-header.ensures.text_value in
    let z = c.in_ok-header.header.value in
    first from_states ∙ c.in_ok-next.ensures.job_value (J.row_lines z z.rows 0 end) ∙ c.rows.ensures.job_value end
