-- `row_line` writes a row: word, team and bounds, operands.
use mathlib.Core.Path.{◌∙◌}
use native.Mathlib.Omega.{arith}
use Rattle.text.specs.Job.{operand_fields, row_line}
use Rattle.writer.specs.Inner.Writing.{written_sizes}
use Rattle.writer.proofs.rows.row_line.Goals as goal

pub kind-requires : goal.kind-requires
kind-requires c = omega (arith, c.requires.valid.0.row_fits c.args.i (omega arith))

pub returns-clause-past : goal.returns-clause-past
unfolding row_line
returns-clause-past c = λ f. rw c.kind-k.ensures at (c.operand_fields.ensures.past f ∙ c.team_fields.ensures.past (operand_fields (written_sizes c.args.block.now) c.args.i c.kind-k.result f) ∙ c.kind.ensures.adds _)
