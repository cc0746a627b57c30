-- The largest and the least value over the numbers that have a decided property, and values one after another as a list. The checker
-- can compute with them. Assumes nothing.
use mathlib.Core.List.{List, [], ◌∷◌}
use mathlib.Core.Path.{◌≡◌, refl, ◌∙◌, ap}
use Prim.Native.Nat.{ℕ, zero, suc, ◌+◌, ◌≤◌, ◌<◌, min, max}
use native.Mathlib.Omega.{arith}
use lib.ListN.{length, get_or}
use Rattle.game.specs.Table.{never}
use Rattle.game.proofs.Numbers.Decide.{le?}
use Rattle.game.proofs.Numbers.Ranks.{below_suc}

-- one value more where the decision is yes. The value stands under a λ, so that it is computed only there
abbrev pub with_value : {Q : Type 0} → (ℕ → ℕ → ℕ) → Dec Q → (Unit {0} → ℕ) → ℕ → ℕ
with_value choose (yes _) v rest = choose (v tt) rest
with_value choose (no _) v rest = rest

module _ {P : ℕ → Type 0} (P? : (i : ℕ) → Dec (P i)) (f : ℕ → ℕ) where
  -- over the numbers below n; 0, or never, where none has the property
  abbrev pub largest : ℕ → ℕ
  largest zero = 0
  largest (suc n) = with_value max (P? n) (λ _. f n) (largest n)

  abbrev pub least : ℕ → ℕ
  least zero = never
  least (suc n) = with_value min (P? n) (λ _. f n) (least n)

  pub largest_each : (n i : ℕ) → i < n → P i → f i ≤ largest n
  largest_each zero = λ i l. absurd (omega arith)
  largest_each (suc n) = go (P? n) (largest_each n)
    where
      go : (d : Dec (P n)) → ((i : ℕ) → i < n → P i → f i ≤ largest n) → (i : ℕ) → i < suc n → P i → f i ≤ with_value max d (λ _. f n) (largest n)
      go (yes _) before = below_suc {P = λ i. P i → f i ≤ max (f n) (largest n)} n (λ i l h. omega (arith, before i l h)) (λ _. omega arith)
      go (no fails) before = below_suc {P = λ i. P i → f i ≤ largest n} n before (λ h. absurd (fails h))

  pub least_each : (n i : ℕ) → i < n → P i → least n ≤ f i
  least_each zero = λ i l. absurd (omega arith)
  least_each (suc n) = go (P? n) (least_each n)
    where
      go : (d : Dec (P n)) → ((i : ℕ) → i < n → P i → least n ≤ f i) → (i : ℕ) → i < suc n → P i → with_value min d (λ _. f n) (least n) ≤ f i
      go (yes _) before = below_suc {P = λ i. P i → min (f n) (least n) ≤ f i} n (λ i l h. omega (arith, before i l h)) (λ _. omega arith)
      go (no fails) before = below_suc {P = λ i. P i → least n ≤ f i} n before (λ h. absurd (fails h))

  -- some number comes up to the largest, given that one has the property at all
  pub largest_some : (k : ℕ) → P k → (n v : ℕ) → v ≤ largest n → (i : ℕ) × P i × (v ≤ f i)
  largest_some k h zero v l = (k, h, omega arith)
  largest_some k h (suc n) v l = go (P? n) (le? v (f n)) (largest_some k h n v) l
    where
      go : (d : Dec (P n)) → Dec (v ≤ f n) → (v ≤ largest n → (i : ℕ) × P i × (v ≤ f i)) → v ≤ with_value max d (λ _. f n) (largest n) → (i : ℕ) × P i × (v ≤ f i)
      go (yes here) (yes up) before l = (n, here, up)
      go (yes here) (no low) before l = before (omega arith)
      go (no _) d before l = before l

  -- some number comes down to the least
  pub least_some : (n v : ℕ) → least n ≤ v → v < never → (i : ℕ) × P i × (f i ≤ v)
  least_some zero v l finite = absurd (omega arith)
  least_some (suc n) v l finite = go (P? n) (le? (f n) v) (λ h. least_some n v h finite) l
    where
      go : (d : Dec (P n)) → Dec (f n ≤ v) → (least n ≤ v → (i : ℕ) × P i × (f i ≤ v)) → with_value min d (λ _. f n) (least n) ≤ v → (i : ℕ) × P i × (f i ≤ v)
      go (yes here) (yes down) before l = (n, here, down)
      go (yes here) (no high) before l = before (omega arith)
      go (no _) d before l = before l

-- n values of f, from that at k on
abbrev pub values_from : (ℕ → ℕ) → ℕ → ℕ → List ℕ
values_from f k zero = []
values_from f k (suc n) = f k ∷ values_from f (suc k) n

abbrev pub values : (ℕ → ℕ) → ℕ → List ℕ
values f n = values_from f 0 n

pub values_length : (f : ℕ → ℕ) (k n : ℕ) → length (values_from f k n) ≡ n
values_length f k zero = refl
values_length f k (suc n) = ap suc (values_length f (suc k) n)

value_from : (f : ℕ → ℕ) (k n i : ℕ) → i < n → get_or (values_from f k n) i 0 ≡ f (k + i)
value_from f k zero i l = absurd (omega arith)
value_from f k (suc n) zero l = ap f (omega arith)
value_from f k (suc n) (suc i) l = value_from f (suc k) n i (omega arith) ∙ ap f (omega arith)

pub value_at : (f : ℕ → ℕ) (n i : ℕ) → i < n → get_or (values f n) i 0 ≡ f i
value_at f n i l = value_from f 0 n i l ∙ ap f (omega arith)
