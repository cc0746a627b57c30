-- `next` reads the byte at its place.
use Rattle.block.proofs.layout.next.Goals as goal

pub returns : goal.returns
returns c = rw c.next_place.ensures.0 at c.byte_at.ensures
