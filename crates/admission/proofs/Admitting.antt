-- What admission tells of a row, a state and a position. Assumes nothing.
use mathlib.Core.List.{List, [], ◌∷◌}
use Prim.Native.Nat.{ℕ, ◌≤◌, ◌<◌}
use native.Mathlib.Omega.{arith}
use lib.ListN.{get_or}
use Rattle.block.specs.Layout as L
use Rattle.block.specs.Layout.{Block}
use Rattle.block.specs.Inner.Valid.{Valid}
use Rattle.block.specs.Refusal.{◌when◌}
use Rattle.block.specs.Check.{block_rules}
use Rattle.block.specs.declared.refusal.Refusal.TheVariants.{RowChoice, Position}
use Rattle.block.proofs.Passing.{unbroken}
use Rattle.block.proofs.Refusals.{Fails, apart}
use Rattle.game.specs.Position.{places, position, IsPosition}
use Rattle.game.specs.Model.{bounds_of, arena_of}
use Rattle.game.proofs.Numbers.Decide.{lt?}
use Rattle.admission.specs.Admission.{set_rules, row_rules, state_rules, NoPosition, no_state, no_stock, position_rules}

-- a row that is admitted exists
pub set_admitted : (b : Block) (i : ℕ) → Fails (set_rules b i) → Valid b × (i < L.rows b)
set_admitted b i fails =
    let (whole, (inside, _)) = apart (block_rules b) (RowChoice when (L.rows b ≤ i) ∷ []) fails in
    (unbroken b whole, omega arith)

-- and is strategic where more than its set is wanted
pub row_admitted : (b : Block) (i : ℕ) → Fails (row_rules b i) → Valid b × ((i < L.rows b) × L.Strategic (L.kind b i))
row_admitted b i fails =
    let (exists, (strategic, _)) = apart (set_rules b i) (RowChoice when (L.kind b i < L.next_kind) ∷ []) fails in
    let (valid, inside) = set_admitted b i exists in
    (valid, (inside, (omega arith, (valid.row_fits i inside).known)))

-- and has the state, where one is wanted
pub state_admitted : (b : Block) (i s : ℕ) → Fails (state_rules b i s) → Valid b × ((i < L.rows b) × L.Strategic (L.kind b i) × (s < L.states b))
state_admitted b i s fails =
    let (row, (some, _)) = apart (row_rules b i) (Position when (L.states b ≤ s) ∷ []) fails in
    let (valid, (inside, strategic)) = row_admitted b i row in
    (valid, (inside, strategic, omega arith))

-- a position that is not refused is one of the row
pub placed : (b : Block) → Valid b → (i s : ℕ) (stocks : List ℕ) → (NoPosition b i s stocks → ⊥) → IsPosition (arena_of b i) (position s stocks)
placed b valid i s stocks fits = (state (lt? s (L.states b)), λ r l. stock r l (lt? (get_or stocks r 0) (places (bounds_of b i r))))
  where
    state : Dec (s < L.states b) → s < L.states b
    state (yes h) = h
    state (no h) = absurd (fits (no_state (omega arith)))

    stock : (r : ℕ) → r < L.resources b → Dec (get_or stocks r 0 < places (bounds_of b i r)) → get_or stocks r 0 < places (bounds_of b i r)
    stock r l (yes h) = h
    stock r l (no h) = absurd (fits (no_stock (r, omega (arith, valid.sized.resources_fit), omega arith)))

-- a position that is admitted is one of a strategic row
pub position_admitted : (b : Block) (i s : ℕ) (stocks : List ℕ) → Fails (position_rules b i s stocks) → Valid b × (((i < L.rows b) × L.Strategic (L.kind b i)) × IsPosition (arena_of b i) (position s stocks))
position_admitted b i s stocks fails =
    let (row, (fits, _)) = apart (row_rules b i) (Position when NoPosition b i s stocks ∷ []) fails in
    let (valid, chosen) = row_admitted b i row in
    (valid, (chosen, placed b valid i s stocks fits))
