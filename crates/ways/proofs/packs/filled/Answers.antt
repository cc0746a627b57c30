-- `filled` adds packed stocks, and cuts each digit down to the room there is.
use mathlib.Core.Path.{◌≡◌, ◌∙◌, ap, ap₂}
use Prim.Native.Nat.{ℕ, suc, ◌+◌, ◌*◌, ◌/◌, ◌%◌, ◌≤◌, min}
use native.Mathlib.Nat.{mul-le-mul}
use native.Mathlib.Numerals.{add-one}
use native.Mathlib.Omega.{arith}
use Rattle.ways.proofs.packs.filled.Goals as goal
use Rattle.ways.proofs.packs.filled.Lts as lts
use Rattle.ways.proofs.packs.filled.Reads as reads
use Rattle.ways.proofs.packs.filled.Tie as tie

abbrev At-After-min-high : Type 0
At-After-min-high = lts.After-min2 tie.the-claims reads.Pre reads.Post tie.handed_clauses

-- both digits are stocks
module _ (c : At-After-min-high) where
  digits_small : (c.min-low.result ≤ 15) × (c.min-high.result ≤ 15) × (c.packed-full.result / 32 + 1 ≤ 16)
  digits_small = (
    omega (arith, c.min-low.ensures, c.packed-full.ensures.0, c.requires.narrow.0),
    omega (arith, c.min-high.ensures, c.packed-full.ensures.0, c.requires.narrow.0),
    omega (arith, c.packed-full.ensures.0, c.requires.narrow.0),
  )

  product_small : c.min-low.result * (c.packed-full.result / 32 + 1) ≤ 15 * 16
  product_small = mul-le-mul digits_small.0 digits_small.2

pub overflow_mul-result : goal.overflow_mul-result
overflow_mul-result c = omega (arith, product_small c.before)

pub overflow_add-result-2 : goal.overflow_add-result-2
overflow_add-result-2 c = omega (arith, product_small c.before, digits_small c.before)

pub returns : goal.returns
returns c = let sum : c.packed.result + c.packed-2.result ≡ _ = ap₂ ◌+◌ c.packed.ensures.0 c.packed-2.ensures.0 in
    ap₂ (λ (u v : ℕ). u * (c.packed-full.result / 32 + 1) + v) c.min-low.ensures c.min-high.ensures
    ∙ ap (λ (w : ℕ). min (c.packed-full.result % 32) ((c.packed.result + c.packed-2.result) % 32) * w + min (c.packed-full.result / 32) ((c.packed.result + c.packed-2.result) / 32)) (add-one (c.packed-full.result / 32))
    ∙ ap₂ (λ (f w : ℕ). min (f % 32) (w % 32) * suc (f / 32) + min (f / 32) (w / 32)) c.packed-full.ensures.0 sum
