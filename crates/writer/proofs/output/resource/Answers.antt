-- `resource` writes the word and then the byte after it.
use mathlib.Core.List.{append_assoc}
use mathlib.Core.Path.{◌∙◌}
use Rattle.writer.proofs.output.resource.Goals as goal

pub returns-clause-adds : goal.returns-clause-adds
returns-clause-adds c = λ rest. rw append_assoc (c.put.ensures.adds.0 rest ∙ c.resource_word.ensures.adds.0 _)
