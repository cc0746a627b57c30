-- `team_fields` writes the team and the bounds of a strategic row.
use mathlib.Core.Path.{refl, sym, ◌∙◌}
use Rattle.text.specs.Job.{team_fields}
use Rattle.text.proofs.KindTests.{strategic_is}
use Rattle.writer.proofs.rows.team_fields.Goals as goal

pub returns-then-strategic-clause-past : goal.returns-then-strategic-clause-past
unfolding team_fields
returns-then-strategic-clause-past c = λ f. rw (sym (strategic_is c.strategic.ensures) ∙ c.if-strategic.true) (rw c.team.ensures at (c.bounds.ensures.past f ∙ c.number.ensures.adds _))

pub returns-else-strategic-clause-past : goal.returns-else-strategic-clause-past
unfolding team_fields
returns-else-strategic-clause-past c = λ f. rw (sym (strategic_is c.strategic.ensures) ∙ c.if-strategic.false) refl
