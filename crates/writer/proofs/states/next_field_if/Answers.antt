-- `next_field_if` leaves out a joint action that cannot be done.
use mathlib.Core.Path.{sym, ◌∙◌}
use Rattle.text.specs.Format.{write}
use Rattle.text.specs.Job.{next_field, go_actions}
use Rattle.writer.proofs.states.next_field_if.Goals as goal

pub returns-then-possible-clause-past : goal.returns-then-possible-clause-past
unfolding next_field go_actions
returns-then-possible-clause-past c = λ f. rw (sym c.possible.ensures ∙ c.if-possible.true) (rw (c.next.ensures, c.next_end-sep.ensures.0) at (c.number.ensures.adds (write f c.args.block.now)))
