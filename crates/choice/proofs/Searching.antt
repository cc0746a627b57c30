-- The first number of a line that has a property is the smallest of all, where the line has the smallest. Assumes nothing.
use mathlib.Core.Path.{◌≡◌, sym, subst}
use Prim.Native.Nat.{ℕ, zero, suc, ◌+◌, ◌^◌, ◌<◌}
use native.Mathlib.Nat.{pow-le-pow_right}
use native.Mathlib.Omega.{arith}
use Rattle.block.specs.Layout as L
use Rattle.block.specs.Layout.{Block}
use Rattle.block.specs.Inner.Valid.{Valid}
use Rattle.game.specs.Table.{Smallest}
use Rattle.game.proofs.Numbers.Decide.{lt?}
use Rattle.ways.specs.Listing.{LineOf}

-- there are at most 64 joint actions
pub joint_number : (b : Block) → Valid b → (m : ℕ) → m < 4 ^ L.agents b → m < 64
joint_number b valid m small = omega (arith, small, pow-le-pow_right {n = 4} (omega arith) valid.sized.agents_fit.1)

-- a number with the property is on the line unless a smaller one has it
module _ (P Q : ℕ → Type 0) {at : ℕ → ℕ} {n : ℕ} (line : LineOf P at n) (listed : (m : ℕ) → Q m → ((k : ℕ) → k < m → Q k → ⊥) → P m) where
  pub line_first : (k : ℕ) → k < n → ((j : ℕ) → j < k → Q (at j) → ⊥) → Q (at k) → Smallest Q (at k)
  line_first k small none here = (here, λ m less h. no_smaller (m + 1) m (omega arith) less h)
    where
      earlier : (m : ℕ) → m < at k → Q m → (j : ℕ) → j < n → at j ≡ m → Dec (j < k) → Dec (k < j) → ⊥
      earlier m less h j l e (yes before) _ = none j before (subst Q (sym e) h)
      earlier m less h j l e (no _) (yes after) = omega (arith, line.rising k j after l)
      earlier m less h j l e (no a) (no b) = let same : j ≡ k = omega arith in omega (arith, subst (λ (i : ℕ). at i ≡ m) same e)

      no_smaller : (d m : ℕ) → m < d → m < at k → Q m → ⊥
      no_smaller zero m below less h = omega arith
      no_smaller (suc d) m below less h =
          let (j, l, e) = line.each m (listed m h (λ i smaller. no_smaller d i (omega arith) (omega arith))) in
          earlier m less h j l e (lt? j k) (lt? k j)

  pub line_none : ((j : ℕ) → j < n → Q (at j) → ⊥) → (m : ℕ) → Q m → ⊥
  line_none none m = go (m + 1) m (omega arith)
    where
      go : (d m : ℕ) → m < d → Q m → ⊥
      go zero m below h = omega arith
      go (suc d) m below h = let (j, l, e) = line.each m (listed m h (λ i smaller. go d i (omega arith))) in none j l (subst Q (sym e) h)
