-- Ranks along an endless play: what a falling rank reaches, and what a rank that is kept up puts off. One side attacks, to reach
-- Goal with Safe before it: the coalition in until, its opponents in always. Nothing here knows moves, costs or states. Assumes nothing.
use mathlib.Core.Logic.{◌⊎◌, inl, inr}
use mathlib.Core.Path.{◌≡◌}
use Prim.Native.Nat.{ℕ, zero, suc, ◌+◌, ◌≤◌, ◌<◌}
use native.Mathlib.Omega.{arith}
use native.Mathlib.Decide.{ℕ_discrete}

-- Goal within n moves, Safe before
abbrev pub ReachedWithin : (ℕ → Type 0) → (ℕ → Type 0) → ℕ → Type 0
ReachedWithin Safe Goal n = (k : ℕ) × (k ≤ n) × Goal k × ((j : ℕ) → j < k → Safe j)

-- Safe fails before the n-th move, with no Goal up to there
abbrev pub Spoilt : (ℕ → Type 0) → (ℕ → Type 0) → ℕ → Type 0
Spoilt Safe Goal n = (j : ℕ) × (j < n) × (Safe j → ⊥) × ((i : ℕ) → i ≤ j → Goal i → ⊥)

pub below_suc : {P : ℕ → Type 0} (n : ℕ) → ((j : ℕ) → j < n → P j) → P n → (j : ℕ) → j < suc n → P j
below_suc {P} n before here j l = go (ℕ_discrete j n)
  where
    go : Dec (j ≡ n) → P j
    go (yes e) = rw e here
    go (no e) = before j (omega arith)

module _ (never : ℕ) (Safe Goal : ℕ → Type 0) (rank : ℕ → ℕ) where
  -- a finite rank falls until it is 0
  module _ (reached : (i : ℕ) → rank i ≡ 0 → Goal i) (falls : (i : ℕ) → 0 < rank i → rank i < never → Safe i × (rank (suc i) < rank i)) (start : rank 0 < never) where
    -- the goal is reached, or the rank has fallen by one in each move
    reached_or_falling : (n : ℕ) → ReachedWithin Safe Goal n ⊎ ((rank n + n ≤ rank 0) × ((j : ℕ) → j < n → Safe j))
    reached_or_falling zero = inr (omega arith, λ j l. absurd (omega arith))
    reached_or_falling (suc n) = go (reached_or_falling n) (ℕ_discrete (rank n) 0)
      where
        go : ReachedWithin Safe Goal n ⊎ ((rank n + n ≤ rank 0) × ((j : ℕ) → j < n → Safe j)) → Dec (rank n ≡ 0) → ReachedWithin Safe Goal (suc n) ⊎ ((rank (suc n) + suc n ≤ rank 0) × ((j : ℕ) → j < suc n → Safe j))
        go (inl (k, l, g, before)) d = inl (k, omega arith, g, before)
        go (inr (l, before)) (yes e) = inl (n, omega arith, reached n e, before)
        go (inr (l, before)) (no e) =
            let f : Safe n × (rank (suc n) < rank n) = falls n (omega arith) (omega arith) in
            inr (omega arith, below_suc {P = Safe} n before f.0)

    -- the goal is reached within the rank
    pub reaches : ReachedWithin Safe Goal (rank 0)
    reaches = go (reached_or_falling (rank 0))
      where
        go : ReachedWithin Safe Goal (rank 0) ⊎ ((rank (rank 0) + rank 0 ≤ rank 0) × ((j : ℕ) → j < rank 0 → Safe j)) → ReachedWithin Safe Goal (rank 0)
        go (inl r) = r
        go (inr (l, before)) = (rank 0, omega arith, reached (rank 0) (omega arith), before)

    -- a rank that is not finite comes only after the goal
    pub unranked_reached : (n : ℕ) → (rank n < never → ⊥) → ReachedWithin Safe Goal n
    unranked_reached n unranked = go (reached_or_falling n)
      where
        go : ReachedWithin Safe Goal n ⊎ ((rank n + n ≤ rank 0) × ((j : ℕ) → j < n → Safe j)) → ReachedWithin Safe Goal n
        go (inl r) = r
        go (inr (l, before)) = absurd (unranked (omega arith))

  module _ (goal : (i : ℕ) → Goal i → rank i ≡ 0) where
    -- a rank that falls by one at most: nothing is reached in fewer moves
    module _ (kept : (i : ℕ) → Safe i → 0 < rank i → rank i ≤ suc (rank (suc i))) where
      kept_up : (k : ℕ) → k ≤ rank 0 → ((j : ℕ) → j < k → Safe j) → rank 0 ≤ rank k + k
      kept_up zero l s = omega arith
      kept_up (suc k) l s =
          let before : rank 0 ≤ rank k + k = kept_up k (omega arith) (λ j u. s j (omega arith)) in
          omega (arith, kept k (s k (omega arith)) (omega arith))

      pub puts_off : (n : ℕ) → n < rank 0 → ReachedWithin Safe Goal n → ⊥
      puts_off n l (k, u, g, before) = omega (arith, goal k g, kept_up k (omega arith) before)

    -- a rank that stays never: nothing is ever reached
    module _ (positive : 0 < never) (start : rank 0 ≡ never) (stays : (i : ℕ) → Safe i → rank i ≡ never → rank (suc i) ≡ never) where
      still_never : (k : ℕ) → ((j : ℕ) → j < k → Safe j) → rank k ≡ never
      still_never zero s = start
      still_never (suc k) s = stays k (s k (omega arith)) (still_never k (λ j u. s j (omega arith)))

      pub never_reaches : (n : ℕ) → ReachedWithin Safe Goal n → ⊥
      never_reaches n (k, u, g, before) = omega (arith, goal k g, still_never k before)

      -- a finite rank comes only after Safe has failed
      spoilt_or_never : ((i : ℕ) → Dec (Safe i)) → (n : ℕ) → Spoilt Safe Goal n ⊎ ((rank n ≡ never) × ((j : ℕ) → j < n → Safe j))
      spoilt_or_never safe? zero = inr (start, λ j l. absurd (omega arith))
      spoilt_or_never safe? (suc n) = go (spoilt_or_never safe? n) (safe? n)
        where
          go : Spoilt Safe Goal n ⊎ ((rank n ≡ never) × ((j : ℕ) → j < n → Safe j)) → Dec (Safe n) → Spoilt Safe Goal (suc n) ⊎ ((rank (suc n) ≡ never) × ((j : ℕ) → j < suc n → Safe j))
          go (inl (j, l, fails, none)) d = inl (j, omega arith, fails, none)
          go (inr (e, before)) (yes s) = inr (stays n s e, below_suc {P = Safe} n before s)
          go (inr (e, before)) (no fails) = inl (n, omega arith, fails, λ i l g. never_reaches i (i, omega arith, g, λ j u. before j (omega arith)))

      pub ranked_spoilt : ((i : ℕ) → Dec (Safe i)) → (n : ℕ) → rank n < never → Spoilt Safe Goal n
      ranked_spoilt safe? n finite = go (spoilt_or_never safe? n)
        where
          go : Spoilt Safe Goal n ⊎ ((rank n ≡ never) × ((j : ℕ) → j < n → Safe j)) → Spoilt Safe Goal n
          go (inl s) = s
          go (inr (e, before)) = absurd (omega arith)
