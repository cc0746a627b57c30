-- What is known of a call that is not refused. Assumes nothing.
use mathlib.Core.Path.{◌≡◌}
use Prim.Native.Nat.{ℕ, ◌≤◌, ◌<◌}
use native.Mathlib.Omega.{arith}
use Rattle.block.specs.Layout as L
use Rattle.block.specs.Layout.{Block}
use Rattle.block.specs.Inner.Valid.{Valid}
use Rattle.block.proofs.Passing.{stable}
use Rattle.block.proofs.Refusals.{Fails}
use Rattle.turns.specs.Sizes.{room_bytes}
use Rattle.admission.proofs.Admitting.{state_admitted}
use Rattle.rehearsal.specs.Rehearsal.{script_bytes, report_bytes, admission_rules}

-- its block passes, its row is strategic, there is such a state, the script is no longer than it may be, and report and room have their lengths
pub rehearsal_admitted : (b : Block) (i s script report room : ℕ) → Fails (admission_rules b i s script report room)
    → Valid b × (((i < L.rows b) × L.Strategic (L.kind b i) × (s < L.states b)) × ((script ≤ script_bytes) × (report ≡ report_bytes) × (room ≡ room_bytes)))
rehearsal_admitted b i s script report room (long, (no-report, (no_room, fails))) =
    let (valid, chosen) = state_admitted b i s fails in
    (valid, (chosen, (omega arith, stable report report_bytes no-report, stable room room_bytes no_room)))
