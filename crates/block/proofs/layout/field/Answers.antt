-- `field` reads the byte at its place.
use Rattle.block.proofs.layout.field.Goals as goal

pub returns : goal.returns
returns c = rw c.field_place.ensures.0 at c.byte_at.ensures
