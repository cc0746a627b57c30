-- Counting ranks: lowering one keeps finite ranks below the number of positions, and the sum of the ranks falls. Assumes nothing.
use mathlib.Core.Bool.{Bool, cond}
use mathlib.Core.Path.{◌≡◌, sym, subst, ap}
use Prim.Native.Nat.{ℕ, zero, suc, ◌≤◌, ◌<◌}
use native.Mathlib.Omega.{arith}
use lib.Dec.{ltb}
use borrow.Author.Tests.{lt-ltb, le-ltb}
use Rattle.game.specs.Table.{never}
use Rattle.game.specs.Inner.Sweep.{count_below, Crowded, total}
use Rattle.game.proofs.Numbers.Decide.{eq?, lt?}

one_below : (a k : ℕ) → a < k → cond {A = ℕ} (ltb a k) 1 0 ≡ 1
one_below a k l = ap (λ (t : Bool). cond t 1 0) (lt-ltb a k l)

none_below : (a k : ℕ) → k ≤ a → cond {A = ℕ} (ltb a k) 1 0 ≡ 0
none_below a k l = ap (λ (t : Bool). cond t 1 0) (le-ltb a k l)

-- a place counts for more where its rank is lower, or the limit higher
counts_more : (a b j k : ℕ) → b ≤ a → j ≤ k → cond {A = ℕ} (ltb a j) 1 0 ≤ cond {A = ℕ} (ltb b k) 1 0
counts_more a b j k lower higher = go (lt? a j)
  where
    go : Dec (a < j) → cond {A = ℕ} (ltb a j) 1 0 ≤ cond {A = ℕ} (ltb b k) 1 0
    go (yes h) = omega (arith, one_below a j h, one_below b k (omega arith))
    go (no h) = omega (arith, none_below a j (omega arith))

pub count_more : (rank rank' : ℕ → ℕ) (n j k : ℕ) → ((i : ℕ) → i < n → rank' i ≤ rank i) → j ≤ k → count_below rank n j ≤ count_below rank' n k
count_more rank rank' zero j k lower h = omega arith
count_more rank rank' (suc n) j k lower h =
    omega (arith, count_more rank rank' n j k (λ i l. lower i (omega arith)) h, counts_more (rank n) (rank' n) j k (lower n (omega arith)) h)

-- a rank j counts one more below j + 1
pub count_grows : (rank : ℕ → ℕ) (n x : ℕ) → x < n → count_below rank n (rank x) < count_below rank n (suc (rank x))
count_grows rank zero x l = absurd (omega arith)
count_grows rank (suc n) x l = go (eq? x n) (count_grows rank n x)
  where
    go : Dec (x ≡ n) → (x < n → count_below rank n (rank x) < count_below rank n (suc (rank x))) → count_below rank (suc n) (rank x) < count_below rank (suc n) (suc (rank x))
    go (yes e) ih =
        let same : rank x ≡ rank n = ap rank e in
        omega (arith, count_more rank rank n (rank x) (suc (rank x)) (λ i _. omega arith) (omega arith), none_below (rank n) (rank x) (omega arith), one_below (rank n) (suc (rank x)) (omega arith))
    go (no ne) ih = omega (arith, ih (omega arith), counts_more (rank n) (rank n) (rank x) (suc (rank x)) (omega arith) (omega arith))

count_at_most : (rank : ℕ → ℕ) (n k : ℕ) → count_below rank n k ≤ n
count_at_most rank zero k = omega arith
count_at_most rank (suc n) k = go (lt? (rank n) k) (count_at_most rank n k)
  where
    go : Dec (rank n < k) → count_below rank n k ≤ n → count_below rank (suc n) k ≤ suc n
    go (yes h) ih = omega (arith, one_below (rank n) k h)
    go (no h) ih = omega (arith, none_below (rank n) k (omega arith))

-- a rank does not count below itself
count_misses : (rank : ℕ → ℕ) (n x : ℕ) → x < n → count_below rank n (rank x) < n
count_misses rank n x l = omega (arith, count_grows rank n x l, count_at_most rank n (suc (rank x)))

-- a finite rank is below the number of positions
pub crowded_below : (n : ℕ) (rank : ℕ → ℕ) → Crowded n rank → (i : ℕ) → i < n → rank i < never → rank i < n
crowded_below n rank crowded i l finite = omega (arith, crowded i l finite, count_misses rank n i l)

-- one rank is lowered to one more than another
module _ (n : ℕ) (rank rank' : ℕ → ℕ) (k : ℕ) (inside : k < n) (others : (i : ℕ) → (i ≡ k → ⊥) → rank' i ≡ rank i) (less : rank' k < rank k) where
  pub lower_everywhere : (i : ℕ) → rank' i ≤ rank i
  lower_everywhere i = go (eq? i k)
    where
      go : Dec (i ≡ k) → rank' i ≤ rank i
      go (yes e) = subst (λ (j : ℕ). rank' j ≤ rank j) (sym e) (omega arith)
      go (no ne) = omega (arith, others i ne)

  pub lower_crowded : (x : ℕ) → x < n → rank' k ≡ suc (rank x) → Crowded n rank → Crowded n rank'
  lower_crowded x lx one crowded i l finite = go (eq? i k)
    where
      go : Dec (i ≡ k) → rank' i ≤ count_below rank' n (rank' i)
      go (yes e) =
          subst (λ (j : ℕ). rank' j ≤ count_below rank' n (rank' j)) (sym e)
          (subst (λ (v : ℕ). v ≤ count_below rank' n v) (sym one)
          (omega (arith, crowded x lx finite_x, count_grows rank n x lx, count_more rank rank' n (suc (rank x)) (suc (rank x)) (λ j _. lower_everywhere j) (omega arith))))
        where
          finite_x : rank x < never
          finite_x = omega (arith, subst (λ (j : ℕ). rank' j < never) e finite)
      go (no ne) =
          subst (λ (v : ℕ). v ≤ count_below rank' n v) (sym (others i ne))
          (omega (arith, crowded i l (subst (λ (v : ℕ). v < never) (others i ne) finite), count_more rank rank' n (rank i) (rank i) (λ j _. lower_everywhere j) (omega arith)))

  total_at_most : (m : ℕ) → total rank' m ≤ total rank m
  total_at_most zero = omega arith
  total_at_most (suc m) = omega (arith, total_at_most m, lower_everywhere m)

  pub total_falls : (m : ℕ) → k < m → total rank' m < total rank m
  total_falls zero l = absurd (omega arith)
  total_falls (suc m) l = go (eq? k m) (total_falls m)
    where
      go : Dec (k ≡ m) → (k < m → total rank' m < total rank m) → total rank' (suc m) < total rank (suc m)
      go (yes e) ih = omega (arith, total_at_most m, subst (λ (j : ℕ). rank' j < rank j) e less)
      go (no ne) ih = omega (arith, ih (omega arith), lower_everywhere m)
