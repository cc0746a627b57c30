-- `go_word` goes past the beginning of a line of next states.
use mathlib.Core.Path.{◌∙◌}
use Rattle.scan.proofs.Reading.{stopped}
use Rattle.text.specs.Job as J
use Rattle.reader.proofs.gos.go_word.Goals as goal

pub returns-in_err-named-clause-b_value : goal.returns-in_err-named-clause-b_value
unfolding J.go_word
returns-in_err-named-clause-b_value c = λ f b. c.in_err-named.ensures.text_value (J.index c.args.s f) b ∙ stopped _ _ _ _ c.from_residual.ensures.1

pub returns-clause-b_value : goal.returns-clause-b_value
unfolding J.go_word
returns-clause-b_value c = λ f b. c.in_ok-named.ensures.text_value (J.index c.args.s f) b ∙ c.index.ensures.text_value f b
