-- `last` looks at the three digits in turn.
use mathlib.Core.Path.{refl}
use borrow.Author.Tests.{eq-eqb, ne_eqb}
use Rattle.text.specs.Job.{last_joint}
use Rattle.text.proofs.joint.last.Goals as goal

pub returns-then-digit-counts : goal.returns-then-digit-counts
unfolding last_joint
returns-then-digit-counts c = simp (rw c.digit.ensures.0 at (ne_eqb _ _ c.if-digit-counts.true))

pub returns-then-digit-counts-2 : goal.returns-then-digit-counts-2
unfolding last_joint
returns-then-digit-counts-2 c = simp (rw c.digit.ensures.0 at (eq-eqb _ _ c.if-digit-counts.false), rw c.digit-2.ensures.0 at (ne_eqb _ _ c.if-digit-counts-2.true))

pub returns : goal.returns
unfolding last_joint
returns c = rw (← c.digit.ensures.0, eq-eqb _ _ c.if-digit-counts.false, ← c.digit-2.ensures.0, eq-eqb _ _ c.if-digit-counts-2.false, ← c.digit-3.ensures.0) refl
