-- The largest or the smallest of some numbers, found by going on from the first. Assumes nothing.
use mathlib.Core.Bool.{Bool, true, false, not}
use mathlib.Core.Logic.{inl, inr, ⊎_elim}
use mathlib.Core.Path.{◌≡◌, refl, sym, ◌∙◌, ap, subst}
use Prim.Native.Nat.{ℕ, zero, suc, ◌+◌, ◌-◌, ◌≤◌, ◌<◌}
use native.Mathlib.Omega.{arith}
use Rattle.ways.specs.Extremes.{Beyond, Further, Extreme, BestOf}
use Rattle.game.proofs.Numbers.Decide.{eq?, lt?}

pub beyond_equal : (most : Bool) (x v : ℕ) → x ≡ v → Beyond most x v
beyond_equal true x v e = omega arith
beyond_equal false x v e = omega arith

pub beyond_trans : (most : Bool) (x y v : ℕ) → Beyond most x y → Beyond most y v → Beyond most x v
beyond_trans true x y v l l' = omega arith
beyond_trans false x y v l l' = omega arith

pub beyond_turned : (most : Bool) (x v : ℕ) → Beyond most x v → Beyond (not most) v x
beyond_turned true x v l = l
beyond_turned false x v l = l

pub further_some : (most : Bool) (a b : ℕ) → (v : ℕ) × Further most a b v
further_some most a b = go most (lt? a b)
  where
    go : (most : Bool) → Dec (a < b) → (v : ℕ) × Further most a b v
    go true (yes l) = (b, record { first = omega arith; second = omega arith; taken = inr refl })
    go true (no l) = (a, record { first = omega arith; second = omega arith; taken = inl refl })
    go false (yes l) = (a, record { first = omega arith; second = omega arith; taken = inl refl })
    go false (no l) = (b, record { first = omega arith; second = omega arith; taken = inr refl })

module _ (most : Bool) (f : ℕ → ℕ) where
  pub extreme_first : (v : ℕ) → v ≡ f 0 → Extreme most 1 f v
  extreme_first v e = record {
    beyond = λ k l. let first : k ≡ 0 = omega arith in beyond_equal most (f k) v (ap f first ∙ sym e);
    taken = (0, omega arith, sym e);
  }

  pub extreme_next : (k x best v : ℕ) → x ≡ f k → Extreme most k f best → Further most x best v → Extreme most (k + 1) f v
  extreme_next k x best v e so_far step = record {
    beyond = λ j l. reach j l (eq? j k);
    taken = ⊎_elim
        (λ e'. (k, omega arith, sym (e' ∙ e)))
        (λ e'. let (j, l, found) = so_far.taken in (j, omega arith, found ∙ sym e'))
        step.taken;
  }
    where
      reach : (j : ℕ) → j < k + 1 → Dec (j ≡ k) → Beyond most (f j) v
      reach j l (yes last) = subst (λ (y : ℕ). Beyond most y v) (e ∙ ap f (sym last)) step.first
      reach j l (no ne) = beyond_trans most (f j) best v (so_far.beyond j (omega arith)) step.second

  -- some of the values is the extreme
  pub extreme_found : (n : ℕ) → 0 < n → (v : ℕ) × Extreme most n f v
  extreme_found n l = let last : (n - 1) + 1 ≡ n = omega arith in subst (λ (k : ℕ). (v : ℕ) × Extreme most k f v) last (upto (n - 1))
    where
      upto : (k : ℕ) → (v : ℕ) × Extreme most (k + 1) f v
      upto zero = (f 0, extreme_first (f 0) refl)
      upto (suc k) =
          let (best, so_far) = upto k in
          let (v, step) = further_some most (f (k + 1)) best in
          let one : (k + 1) + 1 ≡ suc k + 1 = omega arith in
          (v, subst (λ (j : ℕ). Extreme most j f v) one (extreme_next (k + 1) (f (k + 1)) best v refl so_far step))

  -- where the first values are past the limit, so is the extreme
  pub best_early : (k n best limit : ℕ) → k ≤ n → Extreme most k f best → Beyond most limit best → BestOf most n f limit limit
  best_early k n best limit l so_far past =
      let (j, below, e) = so_far.taken in
      let (v, all) = extreme_found n (omega arith) in
      let further : Beyond most limit v = beyond_trans most limit best v past (subst (λ (x : ℕ). Beyond most x v) e (all.beyond j (omega arith))) in
      record {
        worst = v;
        extreme = all;
        further = record { first = beyond_turned most limit v further; second = beyond_equal (not most) limit limit refl; taken = inr refl };
      }
