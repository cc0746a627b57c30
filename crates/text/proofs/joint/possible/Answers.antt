-- `possible` looks at the three digits in turn.
use borrow.Author.Tests.{lt-ltb, le-ltb}
use Rattle.text.specs.Job.{possible}
use Rattle.text.proofs.joint.possible.Goals as goal

pub returns-then-counts-digit : goal.returns-then-counts-digit
unfolding possible
returns-then-counts-digit c = simp (rw c.digit.ensures.0 at (le-ltb _ _ c.if-counts-digit.true))

pub returns-then-counts-digit-2 : goal.returns-then-counts-digit-2
unfolding possible
returns-then-counts-digit-2 c = simp (rw c.digit.ensures.0 at (lt-ltb _ _ c.if-counts-digit.false), rw c.digit-2.ensures.0 at (le-ltb _ _ c.if-counts-digit-2.true))

pub returns : goal.returns
unfolding possible
returns c = simp (rw c.digit.ensures.0 at (lt-ltb _ _ c.if-counts-digit.false), rw c.digit-2.ensures.0 at (lt-ltb _ _ c.if-counts-digit-2.false), c.digit-3.ensures.0)
