-- One more entry of a buffer that is filled in the order of the positions' numbers. Assumes nothing.
use mathlib.Core.List.{List, ◌++◌}
use mathlib.Core.Path.{◌≡◌, refl, sym, ◌∙◌, ap, subst}
use Prim.Native.Nat.{ℕ, ◌+◌, ◌*◌, ◌-◌, ◌<◌}
use native.Mathlib.Nat.{suc-mul}
use native.Mathlib.Numerals.{add-one}
use native.Mathlib.Omega.{arith}
use lib.ListN.{get_or, length, take, replicate, set, length-set}
use lib.Seq.{get_or-set_same, get_or-set_other}
use Rattle.block.specs.Layout as L
use Rattle.block.specs.Layout.{Block}
use Rattle.block.specs.Inner.Valid.{Valid}
use Rattle.game.specs.Position.{number, positions}
use Rattle.game.specs.Model.{arena_of}
use Rattle.game.proofs.Blocks.Passing.{states_times}
use Rattle.game.proofs.Local.Same.{number_below}
use Rattle.turns.specs.Buffers.{rank_in}
use Rattle.turns.specs.Inner.Stores.{Stored}
use Rattle.turns.proofs.Bytes.{cleared, zero_byte, stored_more}
use Rattle.ways.specs.Rows.{Playable}
use Rattle.ways.specs.declared.rows.Row.{Row}
use Rattle.choice.specs.Filling.{byte_in, FilledTo, MoveRight, NextRight}
use Rattle.choice.specs.Tables.{RanksOf, MovesOf, NextRanks}

-- zeros are filled up to nothing
module _ (l l' : List ℕ) (zeros : l' ≡ take 0 l ++ replicate (length l - 0) 0) where
  zero_at : (k : ℕ) → get_or l' k 0 ≡ 0
  zero_at k = ap (λ (x : List ℕ). get_or x k 0) (cleared l l' (length l) zeros refl) ∙ zero_byte (length l) k

  pub bytes_none : (Right : ℕ → ℕ → Type 0) → FilledTo byte_in Right 0 l'
  bytes_none Right = record { below = λ k small. absurd (omega arith); rest = λ k _. zero_at k }

  pub words_none : (Right : ℕ → ℕ → Type 0) → FilledTo rank_in Right 0 l'
  words_none Right = record { below = λ k small. absurd (omega arith); rest = λ k _. omega (arith, zero_at (2 * k), zero_at (2 * k + 1)) }

-- one more entry
filled_next : {entry : List ℕ → ℕ → ℕ} {Right : ℕ → ℕ → Type 0} {n v : ℕ} {l l' : List ℕ} → FilledTo entry Right n l → Stored entry l l' n v → Right n v → FilledTo entry Right (n + 1) l'
filled_next {entry} {Right} {n} {v} {l} {l'} so_far put right = record {
  below = stored_more Right put right so_far.below;
  rest = λ k past. put.others k (λ e. omega arith) ∙ so_far.rest k (omega arith);
}

-- a byte that is stored
pub byte_stored : (l : List ℕ) (n v : ℕ) → n < length l → Stored byte_in l (set l n v) n v
byte_stored l n v inside = record { stored = get_or-set_same l n v 0 inside; others = λ i ne. get_or-set_other l n i v 0 ne; kept = length-set l n v }

-- the places of state s, one after another
module _ {entry : List ℕ → ℕ → ℕ} {Right : ℕ → ℕ → Type 0} (s c : ℕ) where
  pub places_first : {l : List ℕ} → FilledTo entry Right (s * c) l → FilledTo entry Right (s * c + 0) l
  places_first {l} = let first : s * c ≡ s * c + 0 = omega arith in subst (λ (n : ℕ). FilledTo entry Right n l) first

  pub places_next : (x v : ℕ) {l l' : List ℕ} → FilledTo entry Right (s * c + x) l → Stored entry l l' (s * c + x) v → Right (s * c + x) v → FilledTo entry Right (s * c + (x + 1)) l'
  places_next x v {l} {l'} so_far put right = let next : s * c + x + 1 ≡ s * c + (x + 1) = omega arith in subst (λ (n : ℕ). FilledTo entry Right n l') next (filled_next so_far put right)

  pub places_all : (x : ℕ) {l : List ℕ} → x ≡ c → FilledTo entry Right (s * c + x) l → FilledTo entry Right ((s + 1) * c) l
  places_all x {l} all = let last : s * c + x ≡ (s + 1) * c = omega (arith, suc-mul s c, ap (λ (k : ℕ). k * c) (add-one s)) in subst (λ (n : ℕ). FilledTo entry Right n l) last

-- and the states: what is filled in the end is what the buffer has to hold
pub states_first : {entry : List ℕ → ℕ → ℕ} {Right : ℕ → ℕ → Type 0} (c : ℕ) {l : List ℕ} → FilledTo entry Right 0 l → FilledTo entry Right (0 * c) l
states_first {entry} {Right} c {l} = let first : 0 ≡ 0 * c = omega arith in subst (λ (n : ℕ). FilledTo entry Right n l) first

module _ (b : Block) (valid : Valid b) (row : Row) (playable : Playable b row) (l : List ℕ) where
  all_positions : L.states b * row.places ≡ positions (arena_of b row.index)
  all_positions = ap (λ (c : ℕ). L.states b * c) playable.places_are ∙ sym (states_times b valid row.index (L.resources b))

  pub moves_all : (ranks : List ℕ) → FilledTo byte_in (MoveRight b row.index row.set ranks) (L.states b * row.places) l → (right : ℕ) → RanksOf b row.index row.set right ranks → MovesOf b row.index row.set right ranks l
  moves_all ranks filled right ranked = record {
    each = λ p fits. filled.below (number (arena_of b row.index) p) (omega (arith, number_below (arena_of b row.index) p fits, all_positions)) right ranked p fits refl;
    outside = λ n beyond _. filled.rest n (omega (arith, all_positions));
  }

  pub next_all : FilledTo rank_in (NextRight b row.index row.set) (L.states b * row.places) l → NextRanks b row.index row.set l
  next_all filled = record {
    facts = λ p fits. filled.below (number (arena_of b row.index) p) (omega (arith, number_below (arena_of b row.index) p fits, all_positions)) p fits refl;
    outside = λ n beyond _. filled.rest n (omega (arith, all_positions));
  }
