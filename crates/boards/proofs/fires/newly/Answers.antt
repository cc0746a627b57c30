-- `newly` asks of the fresh states first.
use Rattle.block.proofs.Decide as D
use Rattle.boards.proofs.fires.newly.Goals as goal

pub returns-then-fires : goal.returns-then-fires
returns-then-fires c = D.same c.fires-then-fires.ensures (λ now. (now, D.truth c.fires.ensures c.if-fires.true)) (λ (now, _). now)

pub returns-else-fires : goal.returns-else-fires
returns-else-fires c = D.same c.fires.ensures (λ fresh. absurd (D.falsity c.fires.ensures c.if-fires.false fresh)) (λ (_, fresh). fresh)
