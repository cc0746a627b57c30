-- States of a set listed one after another, from the lowest. Assumes nothing.
use mathlib.Core.List.{List}
use mathlib.Core.Logic.{◌↔◌}
use mathlib.Core.Path.{◌≡◌, sym, ◌∙◌, ap, subst}
use Prim.Native.Nat.{ℕ, ◌+◌, ◌/◌, ◌^◌, ◌≤◌, ◌<◌}
use native.Mathlib.Nat.{zero-add, div-one, div-eq_of_lt}
use native.Mathlib.Omega.{arith}
use lib.Count.{ones, ones-le}
use lib.ListN.{get_or, length, set, replicate, length-set, length-replicate}
use lib.Pow.{shr_le, shr-shr}
use lib.Seq.{get_or-set_same, get_or-set_other}
use Rattle.block.specs.Decide.{Some, Bit}
use Rattle.block.specs.Inner.Tests.{Lowest}
use Rattle.block.proofs.Masks.{no_bit_above}
use Rattle.block.proofs.Ones.{ones_above, ones_none, ones_zero, lowest_from}
use Rattle.game.proofs.Numbers.Decide.{eq?, lt?}
use Rattle.turns.proofs.Bytes.{zero_byte}
use Rattle.turns.specs.Listed.{Lists}

pub lists_same : {P Q : ℕ → Type 0} {list : List ℕ} {n : ℕ} → ((s : ℕ) → P s ↔ Q s) → Lists P list n → Lists Q list n
lists_same same l = record {
  each = λ k h. (same _).0 (l.each k h);
  rising = l.rising;
  all = λ s q. l.all s ((same s).1 q);
  past = l.past;
  fits = l.fits;
  long = l.long;
}

module _ (w : ℕ) where
  -- the first k entries are the bits below a place, and the others are still counted
  pub record Listing (list : List ℕ) (k from : ℕ) : Type 0 where
    pub others : k + ones (w / 2 ^ from) ≡ ones w
    pub each : (j : ℕ) → j < k → Bit w (get_or list j 0) × (get_or list j 0 < from)
    pub rising : (i j : ℕ) → i < j → j < k → get_or list i 0 < get_or list j 0
    pub all : (s : ℕ) → s < from → Bit w s → Some k (λ j. get_or list j 0 ≡ s)
    pub past : (j : ℕ) → k ≤ j → get_or list j 0 ≡ 0
    pub long : length list ≡ 24
    pub near : from ≤ 24

  pub listing_none : (list : List ℕ) → list ≡ replicate 24 0 → Listing list 0 0
  listing_none list zeros = record {
    others = ap (λ (n : ℕ). 0 + ones n) (div-one w) ∙ zero-add (ones w);
    each = λ j l. absurd (omega arith);
    rising = λ i j l m. absurd (omega arith);
    all = λ s l. absurd (omega arith);
    past = λ j _. ap (λ (l : List ℕ). get_or l j 0) zeros ∙ zero_byte 24 j;
    long = ap length zeros ∙ length-replicate {A = ℕ} 24 0;
    near = omega arith;
  }

  module _ (small : w < 2 ^ 24) where
    -- while a bit is still counted, there is one at or above the place
    pub left_over : (list : List ℕ) (k from : ℕ) → Listing list k from → k < ones w → (0 < w / 2 ^ from) × (w / 2 ^ from < 2 ^ 32)
    left_over list k from so more = (some (lt? 0 (w / 2 ^ from)), omega (arith, shr_le w from))
      where
        some : Dec (0 < w / 2 ^ from) → 0 < w / 2 ^ from
        some (yes l) = l
        some (no none) =
            let zero : w / 2 ^ from ≡ 0 = omega arith in
            absurd (omega (arith, so.others, ap ones zero, ones_zero))

    bit_near : (s : ℕ) → Bit w s → s < 24
    bit_near s one = go (lt? s 24)
      where
        go : Dec (s < 24) → s < 24
        go (yes l) = l
        go (no far) = absurd (no_bit_above 24 w (div-eq_of_lt small) (s, omega arith, one))

    pub listing_next : (list : List ℕ) (k from t : ℕ) → Listing list k from → Lowest (w / 2 ^ from) t → Listing (set list k (from + t)) (k + 1) (from + t + 1)
    listing_next list k from t so low = record {
      others = omega (arith, so.others, above);
      each = λ j l. each j l (eq? j k);
      rising = λ i j l m. rising i j l m (eq? j k);
      all = λ x l one. all x l one (eq? x (from + t)) (lt? x from);
      past = λ j l. other j (λ e. omega arith) ∙ so.past j (omega arith);
      long = length-set list k (from + t) ∙ so.long;
      near = let n = bit_near (from + t) bit in omega arith;
    }
      where
        bit : Bit w (from + t)
        bit = (lowest_from w from t low).0

        above : ones (w / 2 ^ from) ≡ 1 + ones (w / 2 ^ (from + t + 1))
        above =
            let place : from + (t + 1) ≡ from + t + 1 = omega arith in
            ones_above t (w / 2 ^ from) low ∙ ap (λ (n : ℕ). 1 + ones n) (shr-shr w from (t + 1) ∙ ap (λ (n : ℕ). w / 2 ^ n) place)

        inside : k < length list
        inside = omega (arith, so.long, so.others, above, ones-le 24 w small)

        same : get_or (set list k (from + t)) k 0 ≡ from + t
        same = get_or-set_same list k (from + t) 0 inside

        other : (j : ℕ) → (j ≡ k → ⊥) → get_or (set list k (from + t)) j 0 ≡ get_or list j 0
        other j ne = get_or-set_other list k j (from + t) 0 ne

        each : (j : ℕ) → j < k + 1 → Dec (j ≡ k) → Bit w (get_or (set list k (from + t)) j 0) × (get_or (set list k (from + t)) j 0 < from + t + 1)
        each j l (yes e) =
            let entry : get_or (set list k (from + t)) j 0 ≡ from + t = ap (λ (n : ℕ). get_or (set list k (from + t)) n 0) e ∙ same in
            (subst (Bit w) (sym entry) bit, omega arith)
        each j l (no ne) =
            let (one, before) = so.each j (omega arith) in
            (subst (Bit w) (sym (other j ne)) one, omega (arith, other j ne))

        rising : (i j : ℕ) → i < j → j < k + 1 → Dec (j ≡ k) → get_or (set list k (from + t)) i 0 < get_or (set list k (from + t)) j 0
        rising i j l m (yes e) =
            let entry : get_or (set list k (from + t)) j 0 ≡ from + t = ap (λ (n : ℕ). get_or (set list k (from + t)) n 0) e ∙ same in
            omega (arith, other i (λ e'. omega arith), (so.each i (omega arith)).1)
        rising i j l m (no ne) = omega (arith, other i (λ e'. omega arith), other j ne, so.rising i j l (omega arith))

        all : (x : ℕ) → x < from + t + 1 → Bit w x → Dec (x ≡ from + t) → Dec (x < from) → Some (k + 1) (λ j. get_or (set list k (from + t)) j 0 ≡ x)
        all x l one (yes e) _ = (k, omega arith, same ∙ sym e)
        all x l one (no _) (yes before) =
            let (j, m, e) = so.all x before one in
            (j, omega arith, other j (λ e'. omega arith) ∙ e)
        all x l one (no ne) (no after) = absurd ((lowest_from w from t low).1 x (omega arith) (omega arith) one)

    pub listing_all : (list : List ℕ) (n from : ℕ) → Listing list n from → n ≡ ones w → Lists (Bit w) list n
    listing_all list n from so whole = record {
      each = λ k l. (so.each k l).0;
      rising = so.rising;
      all = λ s one. all s one (lt? s from);
      past = so.past;
      fits = omega (arith, ones-le 24 w small);
      long = so.long;
    }
      where
        all : (s : ℕ) → Bit w s → Dec (s < from) → Some n (λ k. get_or list k 0 ≡ s)
        all s one (yes before) = so.all s before one
        all s one (no after) = absurd (no_bit_above from w (ones_none (w / 2 ^ from) (omega (arith, so.others))) (s, omega arith, one))
