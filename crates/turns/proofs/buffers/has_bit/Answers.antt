-- `has_bit` shifts a word and looks at its lowest bit.
use Rattle.block.proofs.Decide as D
use Rattle.turns.proofs.buffers.has_bit.Goals as goal

pub returns : goal.returns
returns c = D.equal _ _
