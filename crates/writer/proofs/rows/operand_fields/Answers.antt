-- `operand_fields` writes what the row names.
use mathlib.Core.Path.{sym, ◌∙◌}
use Rattle.text.specs.Format.{write}
use Rattle.text.specs.Job.{operand_fields}
use Rattle.text.proofs.KindTests.{binary_is}
use Rattle.writer.proofs.rows.operand_fields.Goals as goal

pub returns-then-binary-clause-past : goal.returns-then-binary-clause-past
unfolding operand_fields
returns-then-binary-clause-past c = λ f. rw (sym (binary_is c.binary.ensures) ∙ c.if-binary.true) (rw (c.left-left.ensures, c.right.ensures) at (c.number-then-binary.ensures.adds (write f c.args.block.now) ∙ c.number.ensures.adds _))

pub returns-else-binary-clause-past : goal.returns-else-binary-clause-past
unfolding operand_fields
returns-else-binary-clause-past c = λ f. rw (sym (binary_is c.binary.ensures) ∙ c.if-binary.false) (rw c.left-left.ensures at (c.number-else-binary.ensures.adds (write f c.args.block.now)))
