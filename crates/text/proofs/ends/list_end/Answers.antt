-- `list_end` ends the line after the last field of a list.
use native.Mathlib.Omega.{arith}
use borrow.Author.Tests.{ne_eqb}
use Rattle.text.proofs.ends.list_end.Goals as goal

pub returns-then-left-eq0 : goal.returns-then-left-eq0
returns-then-left-eq0 c = (rw c.if-left-eq0.true, omega arith)

pub returns : goal.returns
returns c = (simp (ne_eqb _ 0 c.if-left-eq0.false), omega arith)
