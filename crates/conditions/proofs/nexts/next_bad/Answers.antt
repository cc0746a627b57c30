-- `next_bad` tells an available joint action whose next state does not exist.
use Rattle.block.proofs.Decide as D
use Rattle.conditions.proofs.nexts.next_bad.Goals as goal

pub returns-then-available : goal.returns-then-available
returns-then-available c = D.and_second c.available.ensures c.if-available.true (rw (c.states.ensures, c.next.ensures) (D.at_most _ _))

pub returns-else-available : goal.returns-else-available
returns-else-available c = D.and_first c.available.ensures c.if-available.false
