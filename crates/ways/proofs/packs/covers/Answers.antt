-- `covers` compares both stocks by one subtraction: a guard bit is cleared exactly where what stands below it is too small.
use mathlib.Core.Path.{◌≡◌, sym, subst, subst₂}
use Prim.Native.Nat.{ℕ, ◌+◌, ◌-◌, ◌/◌, ◌%◌, ◌≤◌}
use native.Mathlib.Omega.{arith}
use Rattle.block.proofs.Decide as D
use Rattle.ways.specs.Packed.{Narrow}
use Rattle.ways.proofs.packs.covers.Goals as goal

-- the bits above the stocks after w, with these bits set, less v
module _ (w v : ℕ) (narrow-w : Narrow w) (narrow-v : Narrow v) where
  low_bit : (v % 32 ≤ w % 32 → (w + 528 - v) / 16 % 2 ≡ 1) × ((w + 528 - v) / 16 % 2 ≡ 1 → v % 32 ≤ w % 32)
  low_bit = (λ h. omega arith, λ h. omega arith)

  high_bit : (v / 32 ≤ w / 32 → (w + 528 - v) / 512 % 2 ≡ 1) × ((w + 528 - v) / 512 % 2 ≡ 1 → v / 32 ≤ w / 32)
  high_bit = (λ h. omega arith, λ h. omega arith)

pub returns-then-rest-eq1 : goal.returns-then-rest-eq1
returns-then-rest-eq1 c =
    let narrow_x = subst Narrow (sym c.packed.ensures.0) c.requires.narrow.0 in
    let narrow_o = subst Narrow (sym c.packed-2.ensures.0) c.requires.narrow.1 in
    let low = (low_bit c.packed.result c.packed-2.result narrow_x narrow_o).1 c.if-rest-eq1.true in
    let high = high_bit c.packed.result c.packed-2.result narrow_x narrow_o in
    D.same (D.equal ((c.packed.result + 528 - c.packed-2.result) / 512 % 2) 1)
    (λ bit. subst₂ (λ (a b : ℕ). (b % 32 ≤ a % 32) × (b / 32 ≤ a / 32)) c.packed.ensures.0 c.packed-2.ensures.0 (low, high.1 bit))
    (λ h. high.0 (subst₂ (λ (a b : ℕ). (b % 32 ≤ a % 32) × (b / 32 ≤ a / 32)) (sym c.packed.ensures.0) (sym c.packed-2.ensures.0) h).1)

pub returns-else-rest-eq1 : goal.returns-else-rest-eq1
returns-else-rest-eq1 c =
    let narrow_x = subst Narrow (sym c.packed.ensures.0) c.requires.narrow.0 in
    let narrow_o = subst Narrow (sym c.packed-2.ensures.0) c.requires.narrow.1 in
    D.same (D.equal ((c.packed.result + 528 - c.packed-2.result) / 16 % 2) 1)
    (λ bit. absurd (c.if-rest-eq1.false bit))
    (λ h. (low_bit c.packed.result c.packed-2.result narrow_x narrow_o).0 (omega (arith, h.0, c.packed.ensures.0, c.packed-2.ensures.0)))
