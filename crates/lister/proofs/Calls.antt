-- The promises of the lister and its second call, from what their parts ensure. Assumes nothing.
use mathlib.Core.List.{List}
use mathlib.Core.Path.{◌≡◌}
use Prim.Native.Nat.{ℕ, ◌≤◌, ◌<◌}
use native.Mathlib.Omega.{arith}
use lib.Count.{ones}
use lib.ListN.{length}
use Rattle.block.specs.Decide.{Bit}
use Rattle.block.specs.Layout as L
use Rattle.block.specs.Layout.{Block}
use Rattle.block.specs.Inner.Valid.{Valid}
use Rattle.block.specs.Refusal.{Answer}
use Rattle.std.specs.Prelude.{Ok, Err}
use Rattle.block.proofs.Passing.{stable}
use Rattle.block.proofs.Refusals.{Fails, right}
use Rattle.game.specs.Model.{RowSet}
use Rattle.turns.specs.Sizes.{room_bytes}
use Rattle.turns.specs.Listed.{states_bytes, Lists}
use Rattle.turns.proofs.Listing.{lists_same}
use Rattle.admission.proofs.Admitting.{set_admitted}
use Rattle.lister.specs.States.{states_rules, StatesIn, front_of, StatesCall}

-- the states of a row's set are those in which the row is true
pub set_states : (b : Block) (i w : ℕ) (list : List ℕ) (n : ℕ) → RowSet b i w → Lists (Bit w) list n × (n ≡ ones w) → StatesIn b i list n
set_states b i w list n told (listed, count) = record { lists = lists_same (λ s. told.1 s) listed; count = (w, (told, count)) }

-- what is handed back is a part of the list
pub front_fits : (b : Block) (i : ℕ) (list room list' room' : List ℕ) (a : Answer) → StatesCall b i list room list' room' a → front_of a ≤ length list'
front_fits b i list room list' room' (Ok n) call = let l = (right call.answer).lists in omega (arith, l.fits, l.long)
front_fits b i list room list' room' (Err r) call = omega arith

-- a call that is admitted has buffers of the right lengths, a block that passes and a row that exists
pub states_admitted : (b : Block) (i list room : ℕ) → Fails (states_rules b i list room) → Valid b × ((i < L.rows b) × (list ≡ states_bytes) × (room ≡ room_bytes))
states_admitted b i list room (no-list, (no_room, fails)) =
    let (valid, inside) = set_admitted b i fails in
    (valid, (inside, stable list states_bytes no-list, stable room room_bytes no_room))
