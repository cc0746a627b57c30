-- `count` reads the byte at its place.
use Rattle.block.proofs.layout.count.Goals as goal

pub returns : goal.returns
returns c = rw c.count_place.ensures.0 at c.byte_at.ensures
