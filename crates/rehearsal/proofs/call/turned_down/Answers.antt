-- `turned_down` tries the lengths, and then the block, the row and the state.
use native.Mathlib.Omega.{arith}
use Rattle.block.proofs.Refusals.{turned_down, past}
use Rattle.rehearsal.proofs.call.turned_down.Goals as goal

pub returns-then-script-gt-SCRIPT_BYTES : goal.returns-then-script-gt-SCRIPT_BYTES
returns-then-script-gt-SCRIPT_BYTES c = turned_down (omega (arith, c.if-script-gt-SCRIPT_BYTES.true))

pub returns-then-report-ne-REPORT_BYTES : goal.returns-then-report-ne-REPORT_BYTES
returns-then-report-ne-REPORT_BYTES c = past (λ h. omega (arith, c.if-script-gt-SCRIPT_BYTES.false)) (turned_down c.if-report-ne-REPORT_BYTES.true)

pub returns-then-room-ne-ROOM_BYTES : goal.returns-then-room-ne-ROOM_BYTES
returns-then-room-ne-ROOM_BYTES c = past (λ h. omega (arith, c.if-script-gt-SCRIPT_BYTES.false)) (past (λ h. h c.if-report-ne-REPORT_BYTES.false) (turned_down c.if-room-ne-ROOM_BYTES.true))

pub returns : goal.returns
returns c = past (λ h. omega (arith, c.if-script-gt-SCRIPT_BYTES.false)) (past (λ h. h c.if-report-ne-REPORT_BYTES.false) (past (λ h. h c.if-room-ne-ROOM_BYTES.false) c.state.ensures))
