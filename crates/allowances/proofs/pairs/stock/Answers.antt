-- `stock` is 0 where the allowance is unlimited.
use mathlib.Core.Path.{sym}
use Rattle.game.proofs.Blocks.Reading.{if_unlimited, if_limited}
use Rattle.allowances.proofs.pairs.stock.Goals as goal

pub returns-then-n-eq-UNLIMITED : goal.returns-then-n-eq-UNLIMITED
returns-then-n-eq-UNLIMITED c = sym (if_unlimited _ 0 _ c.if-n-eq-UNLIMITED.true)

pub returns : goal.returns
returns c = sym (if_limited _ 0 _ c.if-n-eq-UNLIMITED.false)
