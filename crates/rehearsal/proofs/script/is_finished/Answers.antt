-- `is_finished` goes by the goal of the row.
use Rattle.block.proofs.Decide as D
use Rattle.rehearsal.proofs.script.is_finished.Goals as goal

pub returns-in-Next : goal.returns-in-Next
returns-in-Next c = rw c.in-Next.is (D.equal c.args.n 1)

pub returns-in-Always : goal.returns-in-Always
returns-in-Always c = rw c.in-Always.is (D.equal c.args.n c.args.bytes)

pub returns-in-Until : goal.returns-in-Until
returns-in-Until c = rw c.in-Until.is c.has_bit.ensures
