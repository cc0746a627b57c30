-- Parts of a format that each tell a number (specs' collect), and the list that they tell (specs' collected).
-- Assumes nothing.
use mathlib.Core.List.{List}
use mathlib.Core.Logic.{⊎_elim}
use mathlib.Core.Path.{◌≡◌, refl, ◌∙◌}
use Prim.Native.Nat.{ℕ, zero, suc, ◌+◌, ◌-◌, ◌≤◌, ◌<◌}
use native.Mathlib.Nat.{eq-or-lt_of_le, le_of_suc-le-suc}
use native.Mathlib.Numerals.{add-one}
use native.Mathlib.Omega.{arith}
use lib.ListN.{length, get_or, set, length-set}
use lib.Seq.{get_or-set_same, get_or-set_other}
use Rattle.text.specs.Format.{Format}
use Rattle.text.specs.Inner.Fields.{collected}
use Rattle.text.specs.Job.{collect}
use Rattle.text.proofs.Loops.{left_more}

-- one turn of the code's loop takes one part off, and none is left at the end
module _ (part : ℕ → ℕ → (ℕ → Format) → Format) (count j : ℕ) (told : List ℕ) (f : List ℕ → Format) where
  pub collect_turn : j < count → collect part (count - j) j told f ≡ part (count - (j + 1)) j (λ v. collect part (count - (j + 1)) (j + 1) (set told j v) f)
  unfolding collect
  collect_turn h = rw (left_more count j h, add-one j)

  pub collect_done : count ≤ j → collect part (count - j) j told f ≡ f told
  unfolding collect
  collect_done h = let none : count - j ≡ 0 = omega arith in rw none refl

module _ (value : ℕ → ℕ) (none : List ℕ) where
  collected_length : (n : ℕ) → length (collected value none n) ≡ length none
  collected_length zero = refl
  collected_length (suc n) = length-set (collected value none n) n (value n) ∙ collected_length n

  -- a part that is not among the first n tells nothing
  pub collected_past : (n i : ℕ) → n ≤ i → get_or (collected value none n) i 0 ≡ get_or none i 0
  collected_past zero i h = refl
  collected_past (suc n) i h = get_or-set_other (collected value none n) n i (value n) 0 (λ e. omega arith) ∙ collected_past n i (omega arith)

  pub collected_at : (n i : ℕ) → i < n → i < length none → get_or (collected value none n) i 0 ≡ value i
  collected_at zero i h l = absurd (omega arith)
  collected_at (suc n) i h l = ⊎_elim here (there (collected_at n i)) (eq-or-lt_of_le (le_of_suc-le-suc h))
    where
      here : i ≡ n → get_or (set (collected value none n) n (value n)) i 0 ≡ value i
      here e = rw e (get_or-set_same (collected value none n) n (value n) 0 (omega (arith, collected_length n)))

      there : (i < n → i < length none → get_or (collected value none n) i 0 ≡ value i) → i < n → get_or (set (collected value none n) n (value n)) i 0 ≡ value i
      there ih g = get_or-set_other (collected value none n) n i (value n) 0 (λ e. omega arith) ∙ ih g l
