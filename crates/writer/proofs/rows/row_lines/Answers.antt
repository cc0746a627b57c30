-- `row_lines` writes the rows in turn.
use mathlib.Core.Path.{refl}
use native.Mathlib.Omega.{arith}
use Rattle.writer.specs.Inner.Writing.{written_sizes}
use Rattle.text.proofs.JobLoops.{rows_loop}
use Rattle.writer.proofs.Writing.{looped_none, looped_more, looped_all}
use Rattle.writer.proofs.rows.row_lines.Goals as goal

pub loop-i-init : goal.loop-i-init
loop-i-init c = (omega arith, ((omega arith, (refl, refl)), looped_none))

pub loop-i-preserved : goal.loop-i-preserved
loop-i-preserved c = (omega arith, ((omega arith, (cc, cc)), looped_more (rows_loop (written_sizes c.args.block.now)) c.loop-i.invariant.1.1 (omega arith) c.row_line.ensures.past))

pub returns-clause-past : goal.returns-clause-past
returns-clause-past c = looped_all (rows_loop (written_sizes c.args.block.now)) (rw c.rows-rows.ensures at c.loop-i.invariant.1.1) (omega arith)
