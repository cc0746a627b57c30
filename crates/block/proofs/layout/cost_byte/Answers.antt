-- `cost_byte` reads the byte at its place.
use Rattle.block.proofs.layout.cost_byte.Goals as goal

pub returns : goal.returns
returns c = rw c.cost_place.ensures.0 at c.byte_at.ensures
