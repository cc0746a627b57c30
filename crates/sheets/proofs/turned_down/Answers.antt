-- `turned_down` tries the lengths, and then the block and the row.
use native.Mathlib.Omega.{arith}
use Rattle.block.proofs.Refusals.{turned_down, past}
use Rattle.sheets.proofs.turned_down.Goals as goal

pub returns-then-list-gt-SHEET_BYTES : goal.returns-then-list-gt-SHEET_BYTES
returns-then-list-gt-SHEET_BYTES c = turned_down c.if-list-gt-SHEET_BYTES.true

pub returns-then-list-ne0 : goal.returns-then-list-ne0
returns-then-list-ne0 c = past (λ h. omega (arith, c.if-list-gt-SHEET_BYTES.false)) (turned_down c.if-list-ne0.true)

pub returns-then-words-list : goal.returns-then-words-list
returns-then-words-list c = past (λ h. omega (arith, c.if-list-gt-SHEET_BYTES.false)) (past (λ h. h c.if-list-ne0.false) (turned_down c.if-words-list.true))

pub returns-then-room-ne-ROOM_BYTES : goal.returns-then-room-ne-ROOM_BYTES
returns-then-room-ne-ROOM_BYTES c = past (λ h. omega (arith, c.if-list-gt-SHEET_BYTES.false)) (past (λ h. h c.if-list-ne0.false) (past (λ h. h c.if-words-list.false) (turned_down c.if-room-ne-ROOM_BYTES.true)))

pub returns : goal.returns
returns c = past (λ h. omega (arith, c.if-list-gt-SHEET_BYTES.false)) (past (λ h. h c.if-list-ne0.false) (past (λ h. h c.if-words-list.false) (past (λ h. h c.if-room-ne-ROOM_BYTES.false) c.row.ensures)))
