-- The spellings of each field that has its own.
use Rattle.text.specs.Format.{Spelling}
use Rattle.text.specs.Job.{bound, kind_spelling, resource_spelling, cost_spelling}
use Rattle.spellings.specs.declared.spelled.Spelled.{Spelled}
use Rattle.spellings.specs.declared.spelled.Spelled.TheVariants as spelled

abbrev pub spelling_of : Spelled → Spelling
spelling_of spelled.Bound = bound
spelling_of spelled.Row = kind_spelling
spelling_of (spelled.Resource e left) = resource_spelling e left
spelling_of (spelled.Cost e kind k left) = cost_spelling e kind k left
