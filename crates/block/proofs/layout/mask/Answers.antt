-- `mask` reads the byte at its place.
use Rattle.block.proofs.layout.mask.Goals as goal

pub returns : goal.returns
returns c = rw c.mask_place.ensures.0 at c.byte_at.ensures
