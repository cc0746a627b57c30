-- `failed` goes by the goal of the row.
use Rattle.block.specs.Inner.Tests.{fails}
use Rattle.block.proofs.Decide as D
use Rattle.rankings.proofs.failed.Goals as goal

pub returns-in-Next : goal.returns-in-Next
returns-in-Next c = rw c.in-Next.is (fails (λ over. over))

pub returns-in-Always : goal.returns-in-Always
returns-in-Always c = rw c.in-Always.is (D.equal c.args.own 0)

-- until: left and right both fail
pub returns-then-not-has_bit : goal.returns-then-not-has_bit
returns-then-not-has_bit c = rw c.in-Until.is
    (D.opposite c.has_bit-then-not-has_bit.ensures (λ h over. over.1 h) (λ misses. (D.falsity c.has_bit.ensures c.if-not-has_bit.true, misses)))

pub returns-else-not-has_bit : goal.returns-else-not-has_bit
returns-else-not-has_bit c = rw c.in-Until.is
    (D.opposite c.has_bit.ensures (λ h over. over.0 h) (λ misses. absurd (misses (D.truth c.has_bit.ensures c.if-not-has_bit.false))))
