-- `turned_down` tries the lengths, and then the block, the row and the state.
use Rattle.block.proofs.Refusals.{turned_down, past}
use Rattle.allowances.proofs.call.turned_down.Goals as goal

pub returns-then-list-ne-LIST_BYTES : goal.returns-then-list-ne-LIST_BYTES
returns-then-list-ne-LIST_BYTES c = turned_down c.if-list-ne-LIST_BYTES.true

pub returns-then-room-ne-ROOM_BYTES : goal.returns-then-room-ne-ROOM_BYTES
returns-then-room-ne-ROOM_BYTES c = past (λ h. h c.if-list-ne-LIST_BYTES.false) (turned_down c.if-room-ne-ROOM_BYTES.true)

pub returns : goal.returns
returns c = past (λ h. h c.if-list-ne-LIST_BYTES.false) (past (λ h. h c.if-room-ne-ROOM_BYTES.false) c.state.ensures)
