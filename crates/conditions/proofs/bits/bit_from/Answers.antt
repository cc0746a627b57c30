-- `bit_from` tells whether a mask has a bit at or above a place.
use Rattle.block.proofs.Decide as D
use Rattle.block.proofs.Masks.{bit_above, no_bit_above}
use Rattle.conditions.proofs.bits.bit_from.Goals as goal

pub returns : goal.returns
returns c = D.opposite (D.equal _ _)
    (no_bit_above _ _)
    (bit_above _ _)
