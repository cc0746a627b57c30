-- `outside` tells whether a number is not from 1 to a limit.
use Rattle.std.proofs.Common.{rules, tests}
use Rattle.block.proofs.Decide as D
use Rattle.conditions.proofs.sizes.outside.Goals as goal

pub returns-then-n-lt1 : goal.returns-then-n-lt1
returns-then-n-lt1 c = D.or_first (D.less c.args.n 1) (search (rules, tests))

pub returns-else-n-lt1 : goal.returns-else-n-lt1
returns-else-n-lt1 c = D.or_second (D.less c.args.n 1) (search (rules, tests)) (D.less c.args.high c.args.n)
