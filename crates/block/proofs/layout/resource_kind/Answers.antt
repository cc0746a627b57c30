-- `resource_kind` reads the byte at its place.
use Rattle.block.proofs.layout.resource_kind.Goals as goal

pub returns : goal.returns
returns c = rw c.resource_kind_place.ensures.0 at c.byte_at.ensures
