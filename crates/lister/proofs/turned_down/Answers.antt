-- `turned_down` tries the lengths, and then the block and the row.
use Rattle.block.proofs.Refusals.{turned_down, past}
use Rattle.lister.proofs.turned_down.Goals as goal

pub returns-then-list-ne-STATES_BYTES : goal.returns-then-list-ne-STATES_BYTES
returns-then-list-ne-STATES_BYTES c = turned_down c.if-list-ne-STATES_BYTES.true

pub returns-then-room-ne-ROOM_BYTES : goal.returns-then-room-ne-ROOM_BYTES
returns-then-room-ne-ROOM_BYTES c = past (λ h. h c.if-list-ne-STATES_BYTES.false) (turned_down c.if-room-ne-ROOM_BYTES.true)

pub returns : goal.returns
returns c = past (λ h. h c.if-list-ne-STATES_BYTES.false) (past (λ h. h c.if-room-ne-ROOM_BYTES.false) c.any_row.ensures)
