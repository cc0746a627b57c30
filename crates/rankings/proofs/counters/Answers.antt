-- `counters` goes by the goal of the row.
use native.Mathlib.Omega.{arith}
use Rattle.block.proofs.Decide as D
use Rattle.rankings.proofs.counters.Goals as goal

pub returns-in-Next : goal.returns-in-Next
returns-in-Next c = rw c.in-Next.is (D.opposite c.has_bit.ensures (λ h misses. misses h) (λ misses. misses))

pub returns-in-Always : goal.returns-in-Always
returns-in-Always c = rw c.in-Always.is (D.less c.args.rank c.args.own)

pub returns-in-Until : goal.returns-in-Until
returns-in-Until c = rw c.in-Until.is (D.same (D.at_most 65535 c.args.rank) (λ h x. omega arith) (λ h. omega arith))
