-- `resource_at` finds nothing to read in edition 1.
use Rattle.spellings.proofs.Searches.{silent_search}
use Rattle.spellings.proofs.kinds.resource_at.Goals as goal

pub returns-in-First-clause-text_value : goal.returns-in-First-clause-text_value
returns-in-First-clause-text_value c = rw c.in-First.is (silent_search _)
