-- `states` writes the states in turn.
use mathlib.Core.Path.{refl}
use native.Mathlib.Omega.{arith}
use Rattle.writer.specs.Inner.Writing.{written_sizes}
use Rattle.text.proofs.JobLoops.{states_loop}
use Rattle.writer.proofs.Writing.{looped_none, looped_more, looped_all}
use Rattle.writer.proofs.states.states.Goals as goal

pub loop-s-init : goal.loop-s-init
loop-s-init c = (omega arith, ((omega arith, (refl, refl)), looped_none))

pub loop-s-preserved : goal.loop-s-preserved
loop-s-preserved c = (omega arith, ((omega arith, (cc, cc)), looped_more (states_loop (written_sizes c.args.block.now)) c.loop-s.invariant.1.1 (omega arith) c.state_lines.ensures.past))

pub returns-clause-past : goal.returns-clause-past
returns-clause-past c = looped_all (states_loop (written_sizes c.args.block.now)) (rw c.states-states.ensures at c.loop-s.invariant.1.1) (omega arith)
