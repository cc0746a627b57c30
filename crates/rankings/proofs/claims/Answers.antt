-- `claims` goes by the goal of the row.
use Rattle.block.proofs.Decide as D
use Rattle.rankings.proofs.claims.Goals as goal

pub returns-in-Next : goal.returns-in-Next
returns-in-Next c = rw c.in-Next.is (D.equal c.args.rank 1)

pub returns-in-Always : goal.returns-in-Always
returns-in-Always c = rw c.in-Always.is (D.equal c.args.rank 65535)

pub returns-in-Until : goal.returns-in-Until
returns-in-Until c = rw c.in-Until.is (D.less c.args.rank 65535)
