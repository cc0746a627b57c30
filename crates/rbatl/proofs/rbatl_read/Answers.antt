-- `rbatl_read` hands over what reading answers.
use mir.Syntax.{w32}
use mathlib.Core.Path.{ap, sym, subst, ◌∙◌}
use mir.Facts.{to_z-of_z}
use Rattle.text.specs.Text.{read_call}
use Rattle.rbatl.specs.Answer.{Small, answer_code}
use Rattle.rbatl.proofs.Values.{small_read}
use Rattle.rbatl.proofs.rbatl_read.Goals as goal

pub code-requires : goal.code-requires
code-requires c = subst Small (sym c.read.ensures.value) (small_read (read_call c.args.text.now c.args.block.now))

pub returns : goal.returns
returns c = record {
  value = to_z-of_z {w = w32} (record { sfits = c.code.type_inv }) ∙ c.code.ensures ∙ ap answer_code c.read.ensures.value;
  block_after = c.read.ensures.block_after;
  exact = c.read.ensures.exact;
  numbered = c.read.ensures.numbered;
}
