-- `bound_bad` tells a bound of 16 to 254.
use Rattle.std.proofs.Common.{rules, tests}
use native.Mathlib.Omega.{arith}
use Rattle.block.specs.Layout.{unlimited}
use Rattle.block.proofs.Decide as D
use Rattle.conditions.proofs.rows.bound_bad.Goals as goal

pub returns-then-n-gt-MAX_UNITS : goal.returns-then-n-gt-MAX_UNITS
returns-then-n-gt-MAX_UNITS c = D.opposite (D.equal c.bound-n.result unlimited)
    (λ e x. x.1 (rw (← c.bound-n.ensures) e))
    (λ n. (omega arith, rw (← c.bound-n.ensures) n))

pub returns-else-n-gt-MAX_UNITS : goal.returns-else-n-gt-MAX_UNITS
returns-else-n-gt-MAX_UNITS c = D.no (search (rules, tests)) (λ x. omega arith)
