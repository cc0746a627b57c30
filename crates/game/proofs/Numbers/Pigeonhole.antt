-- Different numbers below n are at most n many. Assumes nothing.
use mathlib.Core.Logic.{◌⊎◌, inl, inr, ite}
use mathlib.Core.Path.{◌≡◌, refl, sym, ◌∙◌}
use Prim.Native.Nat.{ℕ, zero, suc, ◌≤◌, ◌<◌}
use native.Mathlib.Omega.{arith}
use native.Mathlib.Decide.{ℕ_discrete}

abbrev pub Below : ℕ → ℕ → (ℕ → ℕ) → Type 0
Below n k f = (i : ℕ) → i < k → f i < n

abbrev pub Different : ℕ → (ℕ → ℕ) → Type 0
Different k f = (i j : ℕ) → i < k → j < k → f i ≡ f j → i ≡ j

-- x, with v in the place of n
moved : ℕ → ℕ → ℕ → ℕ
moved n v x = ite (ℕ_discrete x n) v x

moved_cases : (n v x : ℕ) → ((x ≡ n) × (moved n v x ≡ v)) ⊎ ((x ≡ n → ⊥) × (moved n v x ≡ x))
unfolding moved
moved_cases n v x = go (ℕ_discrete x n)
  where
    go : (d : Dec (x ≡ n)) → ((x ≡ n) × (ite d v x ≡ v)) ⊎ ((x ≡ n → ⊥) × (ite d v x ≡ x))
    go (yes e) = inl (e, refl)
    go (no e) = inr (e, refl)

-- the last of k + 1 numbers stands in for n among the others, which are then below n
module _ (n k : ℕ) (f : ℕ → ℕ) (below : Below (suc n) (suc k) f) (different : Different (suc k) f) where
  others : ℕ → ℕ
  others i = moved n (f k) (f i)

  others_below : Below n k others
  unfolding others
  others_below i l = go (moved_cases n (f k) (f i))
    where
      go : ((f i ≡ n) × (others i ≡ f k)) ⊎ ((f i ≡ n → ⊥) × (others i ≡ f i)) → others i < n
      go (inl (e, m)) =
          let apart : f k ≡ n → ⊥ = λ e'. let same : i ≡ k = different i k (omega arith) (omega arith) (e ∙ sym e') in omega arith in
          omega (arith, below k (omega arith))
      go (inr (ne, m)) = omega (arith, below i (omega arith))

  others_different : Different k others
  unfolding others
  others_different i j li lj e = go (moved_cases n (f k) (f i)) (moved_cases n (f k) (f j))
    where
      go : ((f i ≡ n) × (others i ≡ f k)) ⊎ ((f i ≡ n → ⊥) × (others i ≡ f i)) → ((f j ≡ n) × (others j ≡ f k)) ⊎ ((f j ≡ n → ⊥) × (others j ≡ f j)) → i ≡ j
      go (inl (ei, mi)) (inl (ej, mj)) = different i j (omega arith) (omega arith) (ei ∙ sym ej)
      go (inl (ei, mi)) (inr (nj, mj)) = let same : k ≡ j = different k j (omega arith) (omega arith) (omega arith) in absurd (omega arith)
      go (inr (ni, mi)) (inl (ej, mj)) = let same : i ≡ k = different i k (omega arith) (omega arith) (omega arith) in absurd (omega arith)
      go (inr (ni, mi)) (inr (nj, mj)) = different i j (omega arith) (omega arith) (omega arith)

pub pigeonhole : (n k : ℕ) (f : ℕ → ℕ) → Below n k f → Different k f → k ≤ n
pigeonhole n zero f below different = omega arith
pigeonhole zero (suc k) f below different = absurd (omega (arith, below 0 (omega arith)))
pigeonhole (suc n) (suc k) f below different =
    let fewer : k ≤ n = pigeonhole n k (others n k f below different) (others_below n k f below different) (others_different n k f below different) in
    omega arith
