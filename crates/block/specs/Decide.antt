-- Words for numbers, searches and bits that the specifications of every crate share.
use Rattle.std.specs.Prelude.{◌⊎◌, ◌≡◌, ℕ, ◌<◌, ◌≤◌, ◌/◌, ◌%◌, ◌^◌}

-- P holds of some number below n
abbrev pub Some : ℕ → (ℕ → Type 0) → Type 0
Some n P = (i : ℕ) × (i < n) × P i

-- n is not from low to high
abbrev pub Outside : ℕ → ℕ → ℕ → Type 0
Outside low high n = (n < low) ⊎ (high < n)

-- bit i of the mask m is 1
abbrev pub Bit : ℕ → ℕ → Type 0
Bit m i = m / 2 ^ i % 2 ≡ 1

-- the mask m has a bit at or above p
abbrev pub BitFrom : ℕ → ℕ → Type 0
BitFrom p m = (i : ℕ) × (p ≤ i) × Bit m i
