-- Pairs of numbers that have a property and of which no other that is nowhere larger has it: with rising first numbers their second ones fall,
-- like stairs. One step lists the pair of a first number, where there is one. Assumes nothing.
use mathlib.Core.Path.{◌≡◌, sym, subst, subst₂}
use Prim.Native.Nat.{ℕ, ◌+◌, ◌≤◌, ◌<◌}
use native.Mathlib.Decide.{ℕ_discrete, dec_lt}
use native.Mathlib.Omega.{arith}
use borrow.Author.Count.{below_more}
use Rattle.block.specs.Decide.{Some}

module _ (P : ℕ → ℕ → Type 0) (first₀ first₁ end₁ : ℕ) where
  -- the pair has the property, and no other that is nowhere larger
  pub record Best (u v : ℕ) : Type 0 where
    pub has : P u v
    pub only : (u' v' : ℕ) → first₀ ≤ u' → first₁ ≤ v' → u' ≤ u → v' ≤ v → P u' v' → (u' ≡ u) × (v' ≡ v)

  -- the n pairs xs, ys are those with a first number below x, and end is the last one's second number; end₁ where there is none
  pub record Stairs (xs ys : ℕ → ℕ) (n x end : ℕ) : Type 0 where
    pub few : n + first₀ ≤ x
    pub last : (first₁ ≤ end) × (end ≤ end₁)
    pub inside : (k : ℕ) → k < n → (first₀ ≤ xs k) × (xs k < x) × (end ≤ ys k) × (ys k < end₁)
    pub rising : (j k : ℕ) → j < k → k < n → xs j < xs k
    pub best : (k : ℕ) → k < n → Best (xs k) (ys k)
    pub covered : (u v : ℕ) → first₀ ≤ u → u < x → first₁ ≤ v → v < end₁ → P u v → Some n (λ k. (xs k ≤ u) × (ys k ≤ v))
    pub met : end < end₁ → Some n (λ k. ys k ≡ end)

  pub no_stairs : (xs ys : ℕ → ℕ) → first₁ ≤ end₁ → Stairs xs ys 0 first₀ end₁
  no_stairs xs ys l = record {
    few = omega arith;
    last = (l, omega arith);
    inside = λ k h. absurd (omega arith);
    rising = λ j k h h'. absurd (omega arith);
    best = λ k h. absurd (omega arith);
    covered = λ u v l₀ h l₁ h₁ p. absurd (omega arith);
    met = λ h. absurd (omega arith);
  }

  module _ {xs ys : ℕ → ℕ} {n x end : ℕ} (stairs : Stairs xs ys n x end) where
    -- what stands at x at or above the end is covered by the last pair
    above : (v : ℕ) → end ≤ v → v < end₁ → Some n (λ k. (xs k ≤ x) × (ys k ≤ v))
    above v l h =
        let (k, lk, e) = stairs.met (omega arith) in
        (k, lk, (omega (arith, stairs.inside k lk), omega arith))

    -- with x too, where the pairs that were there still cover what they did
    covered_more : {xs' ys' : ℕ → ℕ} {n' : ℕ} → ((u v : ℕ) → Some n (λ k. (xs k ≤ u) × (ys k ≤ v)) → Some n' (λ k. (xs' k ≤ u) × (ys' k ≤ v)))
        → ((v : ℕ) → first₁ ≤ v → v < end₁ → P x v → Some n' (λ k. (xs' k ≤ x) × (ys' k ≤ v)))
        → (u v : ℕ) → first₀ ≤ u → u < x + 1 → first₁ ≤ v → v < end₁ → P u v → Some n' (λ k. (xs' k ≤ u) × (ys' k ≤ v))
    covered_more {xs'} {ys'} {n'} still here u v l₀ h l₁ h₁ p = go (ℕ_discrete u x)
      where
        go : Dec (u ≡ x) → Some n' (λ k. (xs' k ≤ u) × (ys' k ≤ v))
        go (no other) = still u v (stairs.covered u v l₀ (omega arith) l₁ h₁ p)
        go (yes e) = subst (λ (w : ℕ). Some n' (λ k. (xs' k ≤ w) × (ys' k ≤ v))) (sym e) (here v l₁ h₁ (subst (λ (w : ℕ). P w v) e p))

    -- no pair with the first number x below the end
    pub stairs_none : ((v : ℕ) → v < end → first₁ ≤ v → P x v → ⊥) → Stairs xs ys n (x + 1) end
    stairs_none none = record {
      few = omega (arith, stairs.few);
      last = stairs.last;
      inside = λ k h. let l = stairs.inside k h in (l.0, omega arith, l.2, l.3);
      rising = stairs.rising;
      best = stairs.best;
      covered = covered_more (λ u v some. some) (λ v l₁ h₁ p. go v l₁ h₁ p (dec_lt v end));
      met = stairs.met;
    }
      where
        go : (v : ℕ) → first₁ ≤ v → v < end₁ → P x v → Dec (v < end) → Some n (λ k. (xs k ≤ x) × (ys k ≤ v))
        go v l₁ h₁ p (yes low) = absurd (none v low l₁ p)
        go v l₁ h₁ p (no high) = above v (omega arith) h₁

    -- the first pair with the first number x is below the end: it is listed, and no other was changed
    module _ (y : ℕ) (first-y : first₁ ≤ y) (low : y < end) (has : P x y) (none : (v : ℕ) → v < y → first₁ ≤ v → P x v → ⊥) where
      best_here : Best x y
      best_here = record { has = has; only = λ u v l₀ l₁ hu hv p. go u v l₀ l₁ hu hv p (ℕ_discrete u x) (ℕ_discrete v y) }
        where
          go : (u v : ℕ) → first₀ ≤ u → first₁ ≤ v → u ≤ x → v ≤ y → P u v → Dec (u ≡ x) → Dec (v ≡ y) → (u ≡ x) × (v ≡ y)
          go u v l₀ l₁ hu hv p (yes e) (yes e') = (e, e')
          go u v l₀ l₁ hu hv p (yes e) (no other) = absurd (none v (omega arith) l₁ (subst (λ (w : ℕ). P w v) e p))
          go u v l₀ l₁ hu hv p (no other) _ =
              let (k, lk, (_, c)) = stairs.covered u v l₀ (omega arith) l₁ (omega (arith, stairs.last)) p in
              absurd (omega (arith, stairs.inside k lk))

      module _ (xs' ys' : ℕ → ℕ) (same : (k : ℕ) → k < n → (xs' k ≡ xs k) × (ys' k ≡ ys k)) (here : (xs' n ≡ x) × (ys' n ≡ y)) where
        -- a claim about each of the pairs
        each : (Q : ℕ → ℕ → Type 0) → ((k : ℕ) → k < n → Q (xs k) (ys k)) → Q x y → (k : ℕ) → k < n + 1 → Q (xs' k) (ys' k)
        each Q before now = below_more (λ k. Q (xs' k) (ys' k)) n (λ k l. subst₂ Q (sym (same k l).0) (sym (same k l).1) (before k l)) (subst₂ Q (sym here.0) (sym here.1) now)

        -- one of the earlier pairs is still there
        still : (Q : ℕ → ℕ → Type 0) → Some n (λ k. Q (xs k) (ys k)) → Some (n + 1) (λ k. Q (xs' k) (ys' k))
        still Q (k, l, q) = (k, omega arith, subst₂ Q (sym (same k l).0) (sym (same k l).1) q)

        pub stairs_more : first₀ ≤ x → Stairs xs' ys' (n + 1) (x + 1) y
        stairs_more l = record {
          few = omega (arith, stairs.few);
          last = (first-y, omega (arith, stairs.last));
          inside =
              each (λ u v. (first₀ ≤ u) × (u < x + 1) × (y ≤ v) × (v < end₁))
              (λ k h. let i = stairs.inside k h in (i.0, omega arith, omega arith, i.3)) (l, omega arith, omega arith, omega (arith, stairs.last));
          rising = λ j k h h'. rise j k h (ℕ_discrete k n) h';
          best = each Best stairs.best best_here;
          covered = covered_more (λ u v. still (λ a c. (a ≤ u) × (c ≤ v))) (λ v l₁ h₁ p. go v l₁ p (dec_lt v y));
          met = λ _. (n, omega arith, here.1);
        }
          where
            rise : (j k : ℕ) → j < k → Dec (k ≡ n) → k < n + 1 → xs' j < xs' k
            rise j k h (yes e) h' = omega (arith, (same j (omega arith)).0, subst (λ (m : ℕ). xs' m ≡ x) (sym e) here.0, stairs.inside j (omega arith))
            rise j k h (no other) h' = omega (arith, (same j (omega arith)).0, (same k (omega arith)).0, stairs.rising j k h (omega arith))

            go : (v : ℕ) → first₁ ≤ v → P x v → Dec (v < y) → Some (n + 1) (λ k. (xs' k ≤ x) × (ys' k ≤ v))
            go v l₁ p (yes below) = absurd (none v below l₁ p)
            go v l₁ p (no high) = (n, omega arith, (omega (arith, here.0), omega (arith, here.1)))
