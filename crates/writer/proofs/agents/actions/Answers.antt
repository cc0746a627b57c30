-- `actions` writes the costs, action by action.
use mathlib.Core.Path.{refl}
use native.Mathlib.Omega.{arith}
use Rattle.writer.specs.Inner.Writing.{written_sizes}
use Rattle.text.proofs.JobLoops.{actions_loop}
use Rattle.writer.proofs.Writing.{looped_none, looped_more, looped_all}
use Rattle.writer.proofs.agents.actions.Goals as goal

pub loop-k-init : goal.loop-k-init
loop-k-init c = (omega arith, ((omega arith, (refl, refl)), looped_none))

pub costs-requires : goal.costs-requires
costs-requires c = let few = c.requires.valid.0.counted c.args.s c.args.a (omega arith) (omega arith) in
    record { valid = (c.requires.valid.0, omega arith); s_lt_max_states = omega arith }

pub loop-k-preserved : goal.loop-k-preserved
loop-k-preserved c = (omega arith, ((omega arith, (cc, cc)), looped_more (actions_loop (written_sizes c.args.block.now) c.args.s c.args.a) c.loop-k.invariant.1.1 (omega arith) c.costs.ensures.past))

pub returns-clause-past : goal.returns-clause-past
returns-clause-past c = looped_all (actions_loop (written_sizes c.args.block.now) c.args.s c.args.a) (rw c.count-actions.ensures at c.loop-k.invariant.1.1) (omega arith)

pub returns-clause-within : goal.returns-clause-within
returns-clause-within c = let few = c.requires.valid.0.counted c.args.s c.args.a (omega arith) (omega arith) in
    (omega arith, c.loop-k.invariant.1.0.1)
