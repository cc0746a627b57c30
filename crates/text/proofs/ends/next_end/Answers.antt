-- `next_end` ends the line after each next state in edition 1, and after the last one in edition 2.
use mathlib.Core.Path.{sym, ◌∙◌}
use native.Mathlib.Omega.{arith}
use Rattle.text.proofs.ends.next_end.Goals as goal

pub returns-then-last : goal.returns-then-last
returns-then-last c = (rw (c.in-Second.is, sym c.last.ensures ∙ c.if-last.true), omega arith)

pub returns-else-last : goal.returns-else-last
returns-else-last c = (rw (c.in-Second.is, sym c.last.ensures ∙ c.if-last.false), omega arith)
