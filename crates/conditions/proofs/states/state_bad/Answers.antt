-- `state_bad` tries a state's mask, then its agents.
use Rattle.block.proofs.Decide as D
use Rattle.conditions.proofs.states.state_bad.Goals as goal

pub returns-then-bit_from : goal.returns-then-bit_from
returns-then-bit_from c = D.or_first (rw (c.mask.ensures, c.propositions.ensures) at c.bit_from.ensures) c.if-bit_from.true

pub returns-else-bit_from : goal.returns-else-bit_from
returns-else-bit_from c = D.or_second (rw (c.mask.ensures, c.propositions.ensures) at c.bit_from.ensures) c.if-bit_from.false c.agents_bad.ensures
