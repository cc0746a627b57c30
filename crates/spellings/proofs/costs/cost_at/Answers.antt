-- `cost_at` finds a number in edition 1, and a number or a charge in edition 2.
use mathlib.Core.Path.{◌∙◌}
use Rattle.tokens.proofs.ChargesAt.{plain_search}
use Rattle.spellings.proofs.costs.cost_at.Goals as goal

pub returns-in-First-clause-text_value : goal.returns-in-First-clause-text_value
returns-in-First-clause-text_value c = rw c.in-First.is (plain_search _ _ ∙ (rw (c.from-sep.ensures, c.list_end.ensures.0) at c.number.ensures.text_value))
