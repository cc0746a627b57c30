-- A part of a format that repeats: what one turn of the code's loop takes off, and that none is left at the end.
-- Assumes nothing.
use mathlib.Core.Path.{◌≡◌}
use Prim.Native.Nat.{ℕ, suc, ◌+◌, ◌-◌, ◌≤◌, ◌<◌}
use native.Mathlib.Numerals.{add-one}
use native.Mathlib.Omega.{arith}
use Rattle.text.specs.Format.{Format}

-- n turns from j on; the body is told how many follow it
pub record Loop (loop body : ℕ → ℕ → Format → Format) : Type 0 where
  pub done : (j : ℕ) (f : Format) → loop 0 j f ≡ f
  pub more : (n j : ℕ) (f : Format) → loop (suc n) j f ≡ body n j (loop n (suc j) f)

-- how many turns are left
pub left_more : (count j : ℕ) → j < count → count - j ≡ suc (count - (j + 1))
left_more count j h = omega arith

module _ {loop body : ℕ → ℕ → Format → Format} (l : Loop loop body) (count j : ℕ) (f : Format) where
  pub turn : j < count → loop (count - j) j f ≡ body (count - (j + 1)) j (loop (count - (j + 1)) (j + 1) f)
  turn h = rw (left_more count j h, add-one j) (l.more (count - suc j) j f)

  pub finish : count ≤ j → loop (count - j) j f ≡ f
  finish h =
      let none : count - j ≡ 0 = omega arith in
      rw none (l.done j f)
