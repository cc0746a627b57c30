-- A mask has a bit at or above p exactly where it is 2 ^ p or more.
-- Assumes nothing.
use mathlib.Core.Path.{◌≡◌, refl}
use mathlib.Core.Logic.{◌⊎◌, ⊎_elim, inl, inr}
use Prim.Native.Nat.{ℕ, zero, suc, ◌+◌, ◌-◌, ◌<◌, ◌/◌, ◌%◌, ◌^◌}
use native.Mathlib.Nat.{zero-div}
use native.Mathlib.Omega.{arith}
use lib.Arith.{bin_ind}
use lib.Pow.{shr-shr}
use Rattle.block.specs.Decide.{Bit, BitFrom}

odd_or_even : (n : ℕ) → (n % 2 ≡ 1) ⊎ (n % 2 ≡ 0)
odd_or_even n = ⊎_elim (λ z. inr z) (λ l. inl (omega arith)) (zero_or_pos (n % 2))
  where
    zero_or_pos : (k : ℕ) → (k ≡ 0) ⊎ (0 < k)
    zero_or_pos zero = inl refl
    zero_or_pos (suc k) = inr (omega arith)

some_bit : (n : ℕ) → (n ≡ 0 → ⊥) → (i : ℕ) × Bit n i
some_bit = bin_ind (λ n. (n ≡ 0 → ⊥) → (i : ℕ) × Bit n i) (λ h. absurd (h refl)) step
  where
    step : (n : ℕ) → ((n / 2 ≡ 0 → ⊥) → (i : ℕ) × Bit (n / 2) i) → (n ≡ 0 → ⊥) → (i : ℕ) × Bit n i
    step n ih h = ⊎_elim
        (λ odd. (0, omega (arith, odd)))
        (λ even. let x = ih (λ z. h (omega (arith, even, z))) in (1 + x.0, rw (← shr-shr n 1 x.0) x.1))
        (odd_or_even n)

pub bit_above : (p m : ℕ) → (m / 2 ^ p ≡ 0 → ⊥) → BitFrom p m
bit_above p m h = let x = some_bit (m / 2 ^ p) h in (p + x.0, omega arith, rw (← shr-shr m p x.0) x.1)

pub no_bit_above : (p m : ℕ) → m / 2 ^ p ≡ 0 → BitFrom p m → ⊥
no_bit_above p m h x =
    let split : x.0 ≡ p + (x.0 - p) = omega (arith, x.1) in
    let bit : 0 / 2 ^ (x.0 - p) % 2 ≡ 1 = rw (split, ← shr-shr m p (x.0 - p), h) at x.2 in
    let none : 0 / 2 ^ (x.0 - p) ≡ 0 = zero-div _ in
    omega arith
