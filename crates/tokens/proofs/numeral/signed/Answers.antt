-- `signed` looks for a minus, and for a number after it that is not 0.
use mathlib.Core.Path.{◌∙◌, sym}
use native.Mathlib.Omega.{arith}
use Rattle.text.proofs.Search.{search_inv}
use Rattle.tokens.proofs.ChargesAt.{no_minus, minus_found, minus_zero, minus_alone}
use Rattle.tokens.proofs.numeral.signed.Goals as goal

pub returns-then-byte-ne-MINUS-clause-text_value : goal.returns-then-byte-ne-MINUS-clause-text_value
returns-then-byte-ne-MINUS-clause-text_value c = no_minus c.args.sep (omega arith) c.args.text.now c.args.at (λ e. c.if-byte-ne-MINUS.true (c.byte.ensures ∙ e)) ∙ c.number.ensures.text_value

pub returns-in_err-found-clause-text_value : goal.returns-in_err-found-clause-text_value
returns-in_err-found-clause-text_value c = rw c.from_residual.ensures (minus_alone c.args.sep (omega arith) c.args.text.now c.args.at (sym c.byte.ensures ∙ c.if-byte-ne-MINUS.false) c.in_err-found.ensures.text_value)

pub returns-then-found-eq0-clause-text_value : goal.returns-then-found-eq0-clause-text_value
returns-then-found-eq0-clause-text_value c = minus_zero c.args.sep (omega arith) c.args.text.now c.args.at (sym c.byte.ensures ∙ c.if-byte-ne-MINUS.false) _ _ c.in_ok-found.ensures.text_value (omega arith)

pub overflow_add-result : goal.overflow_add-result
overflow_add-result c = let is = search_inv _ _ _ _ _ c.in_ok-found.ensures.text_value in omega (arith, is.0)

pub returns-clause-text_value : goal.returns-clause-text_value
returns-clause-text_value c = minus_found c.args.sep (omega arith) c.args.text.now c.args.at (sym c.byte.ensures ∙ c.if-byte-ne-MINUS.false) _ _ c.in_ok-found.ensures.text_value (omega arith)
