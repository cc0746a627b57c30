-- A position's number, resource by resource: one more resource goes on as `number_up_to` does, and the number stays small. One law for
-- every loop that numbers a position. Assumes nothing.
use mathlib.Core.Path.{◌≡◌, sym, ◌∙◌, ap, ap₂}
use Prim.Native.Nat.{ℕ, ◌+◌, ◌*◌, ◌<◌}
use native.Mathlib.Numerals.{add-one}
use native.Mathlib.Omega.{arith}
use Rattle.block.specs.Layout as L
use Rattle.block.specs.Layout.{Block}
use Rattle.block.specs.Inner.Valid.{Valid}
use Rattle.game.specs.Position.{Position, places, IsPosition, number_up_to}
use Rattle.game.specs.Model.{bounds_of, arena_of}
use Rattle.game.proofs.Local.Same.{number_below_upto}
use Rattle.game.proofs.Blocks.Passing.{few_upto}

-- the stocks need not be those of a position
pub number_next : (b : Block) (i j x w v : ℕ) (y : Position) → x ≡ number_up_to (arena_of b i) j y → w ≡ places (bounds_of b i j) → v ≡ y.stock j → x * w + v ≡ number_up_to (arena_of b i) (j + 1) y
number_next b i j x w v y so_far places_are stock =
    ap₂ (λ (x w : ℕ). x * w + v) so_far places_are ∙ ap (λ (v : ℕ). number_up_to (arena_of b i) j y * places (bounds_of b i j) + v) stock ∙ sym (ap (λ (n : ℕ). number_up_to (arena_of b i) n y) (add-one j))

module _ (b : Block) (valid : Valid b) (i j x w v : ℕ) (y : Position) (row : i < L.rows b) (strategic : L.Strategic (L.kind b i)) (fits : IsPosition (arena_of b i) y) (resource : j < L.resources b)
    (so_far : x ≡ number_up_to (arena_of b i) j y) (places_are : w ≡ places (bounds_of b i j)) (stock : v ≡ y.stock j) where
  pub goes_on : x * w + v ≡ number_up_to (arena_of b i) (j + 1) y
  goes_on = number_next b i j x w v y so_far places_are stock

  pub stays_small : x * w + v < 6144
  stays_small = omega (arith, goes_on, number_below_upto (arena_of b i) y fits (j + 1) (omega arith), few_upto b valid i row strategic (j + 1) (omega arith))
