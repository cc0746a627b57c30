-- What is known of a call that is not refused. Assumes nothing.
use mathlib.Core.Path.{◌≡◌}
use Prim.Native.Nat.{ℕ, ◌<◌}
use Rattle.block.specs.Layout as L
use Rattle.block.specs.Layout.{Block}
use Rattle.block.specs.Inner.Valid.{Valid}
use Rattle.block.proofs.Passing.{stable}
use Rattle.block.proofs.Refusals.{Fails}
use Rattle.turns.specs.Sizes.{room_bytes}
use Rattle.admission.proofs.Admitting.{state_admitted}
use Rattle.allowances.specs.Allowances.{allowances_bytes, allowances_rules}

-- its buffers have the right lengths, its block passes, its row is strategic, and there is such a state
pub allowances_admitted : (b : Block) (i s list room : ℕ) → Fails (allowances_rules b i s list room)
    → Valid b × (((i < L.rows b) × L.Strategic (L.kind b i) × (s < L.states b)) × ((list ≡ allowances_bytes) × (room ≡ room_bytes)))
allowances_admitted b i s list room (no-list, (no_room, fails)) =
    let (valid, chosen) = state_admitted b i s fails in
    (valid, (chosen, (stable list allowances_bytes no-list, stable room room_bytes no_room)))
