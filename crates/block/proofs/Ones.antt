-- The lowest bit of a word, and the count of its bits. Assumes nothing.
use mathlib.Core.Path.{◌≡◌, refl, sym, ◌∙◌, ap, subst}
use Prim.Native.Nat.{ℕ, zero, suc, ◌+◌, ◌-◌, ◌/◌, ◌%◌, ◌^◌, ◌≤◌, ◌<◌}
use native.Mathlib.Omega.{arith}
use lib.Arith.{bin_ind}
use lib.Count.{ones, ones_step, count_trailing_zeros, under}
use lib.Pow.{shr_lt, shr-shr}
use Rattle.block.specs.Decide.{Bit}
use Rattle.block.specs.Inner.Tests.{Lowest}

half_bit : (w x : ℕ) → w / 2 / 2 ^ x % 2 ≡ w / 2 ^ (1 + x) % 2
half_bit w x = ap (λ (n : ℕ). n % 2) (shr-shr w 1 x)

lowest_odd : (w : ℕ) → w % 2 ≡ 1 → Lowest w 0
lowest_odd w odd = record { bit = omega arith; first = λ x l. absurd (omega arith) }

lowest_even : (w s : ℕ) → w % 2 ≡ 0 → Lowest (w / 2) s → Lowest w (1 + s)
lowest_even w s even low = record { bit = sym (half_bit w s) ∙ low.bit; first = below }
  where
    below : (x : ℕ) → x < 1 + s → Bit w x → ⊥
    below zero l one = omega arith
    below (suc x) l one =
        let shifted : suc x ≡ 1 + x = omega arith in
        low.first x (omega arith) (half_bit w x ∙ ap (λ (n : ℕ). w / 2 ^ n % 2) (sym shifted) ∙ one)

-- the trailing zeros of a word that is not 0 are the number of its lowest bit
pub trailing_lowest : (d w : ℕ) → 0 < w → w < 2 ^ d → Lowest w (count_trailing_zeros d w)
unfolding count_trailing_zeros
trailing_lowest zero w some small = absurd (omega arith)
trailing_lowest (suc d) w some small = go (w % 2) refl (λ even. trailing_lowest d (w / 2) (omega arith) (shr_lt d 1 (subst (λ (n : ℕ). w < 2 ^ n) longer small)))
  where
    longer : suc d ≡ d + 1
    longer = omega arith

    go : (r : ℕ) → w % 2 ≡ r → (w % 2 ≡ 0 → Lowest (w / 2) (count_trailing_zeros d (w / 2))) → Lowest w (under r (count_trailing_zeros d (w / 2)))
    go zero even rest =
        let more : 1 + count_trailing_zeros d (w / 2) ≡ suc (count_trailing_zeros d (w / 2)) = omega arith in
        subst (Lowest w) more (lowest_even w (count_trailing_zeros d (w / 2)) even (rest even))
    go (suc r) e rest = lowest_odd w (omega arith)

-- a word has one bit more than what stands above its lowest
pub ones_above : (s w : ℕ) → Lowest w s → ones w ≡ 1 + ones (w / 2 ^ (s + 1))
ones_above zero w low =
    let odd : w % 2 ≡ 1 = omega (arith, low.bit) in
    ones_step w ∙ ap (λ (n : ℕ). n + ones (w / 2)) odd
ones_above (suc s) w low =
    let even : w % 2 ≡ 0 = omega (arith, low.first 0 (omega arith)) in
    let shifted : 1 + (s + 1) ≡ suc s + 1 = omega arith in
    let half : Lowest (w / 2) s = record {
      bit = half_bit w s ∙ ap (λ (n : ℕ). w / 2 ^ n % 2) (one_more s) ∙ low.bit;
      first = λ x l one. low.first (suc x) (omega arith) (ap (λ (n : ℕ). w / 2 ^ n % 2) (sym (one_more x)) ∙ sym (half_bit w x) ∙ one);
    } in
    let rest : ones (w / 2) ≡ 1 + ones (w / 2 ^ (suc s + 1)) = ones_above s (w / 2) half ∙ ap (λ (n : ℕ). 1 + ones n) (shr-shr w 1 (s + 1) ∙ ap (λ (n : ℕ). w / 2 ^ n) shifted) in
    omega (arith, ones_step w)
  where
    one_more : (x : ℕ) → 1 + x ≡ suc x
    one_more x = omega arith

-- a word without bits is 0
pub ones_none : (w : ℕ) → ones w ≡ 0 → w ≡ 0
ones_none = bin_ind (λ w. ones w ≡ 0 → w ≡ 0) (λ _. refl) (λ w half none. let rest = half (omega (arith, ones_step w)) in omega (arith, ones_step w))

pub ones_zero : ones 0 ≡ 0
unfolding ones
ones_zero = refl

-- the lowest bit from a place on, as a bit of the whole word; none stands between
pub lowest_from : (w from k : ℕ) → Lowest (w / 2 ^ from) k → Bit w (from + k) × ((x : ℕ) → from ≤ x → x < from + k → Bit w x → ⊥)
lowest_from w from k low = (sym (moved k) ∙ low.bit, λ x l u one. let place : from + (x - from) ≡ x = omega arith in low.first (x - from) (omega arith) (moved (x - from) ∙ ap (λ (n : ℕ). w / 2 ^ n % 2) place ∙ one))
  where
    moved : (j : ℕ) → w / 2 ^ from / 2 ^ j % 2 ≡ w / 2 ^ (from + j) % 2
    moved j = ap (λ (n : ℕ). n % 2) (shr-shr w from j)
