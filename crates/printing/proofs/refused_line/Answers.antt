-- `refused_line` stores its word and then the number.
use mathlib.Core.Path.{◌∙◌}
use Rattle.printing.proofs.refused_line.Goals as goal

pub returns-clause-adds : goal.returns-clause-adds
returns-clause-adds c = λ rest. rw (← c.from.ensures) (c.number.ensures.adds rest ∙ c.word.ensures.adds.0 _)
