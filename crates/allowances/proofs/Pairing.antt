-- Allowances as pairs: the stairs of the pairs that are enough are the smallest allowances. Assumes nothing.
use mathlib.Core.List.{List}
use mathlib.Core.Path.{◌≡◌, refl, sym, subst}
use Prim.Native.Nat.{ℕ, ◌+◌, ◌*◌, ◌≤◌, ◌<◌}
use native.Mathlib.Decide.{ℕ_discrete}
use native.Mathlib.Omega.{arith}
use lib.ListN.{get_or, length}
use Rattle.block.specs.Decide.{Some}
use Rattle.block.specs.Layout as L
use Rattle.block.specs.Layout.{Block}
use Rattle.block.specs.Inner.Valid.{Valid}
use Rattle.game.specs.Rbatl.{Bounds}
use Rattle.game.specs.Model.{bounds_by, RowTrueWith}
use Rattle.game.proofs.Numbers.Decide.{all_below, eq?}
use Rattle.game.proofs.Blocks.OneRow.{bounds_same}
use Rattle.allowances.specs.Allowances.{Allowance, Shows, Suffices, NowhereLarger, Same, Smallest, allowances_bytes, allowance_in, AllowancesIn}
use Rattle.allowances.specs.Allowances as A
use Rattle.allowances.specs.Inner.Pairs.{pair, Enough, Spans}
use Rattle.allowances.proofs.Stairs.{Stairs}

-- a claim about each resource
pub two : (Q : ℕ → Type 0) → Q 0 → Q 1 → (j : ℕ) → j < L.max_resources → Q j
two Q q₀ q₁ j l = go (ℕ_discrete j 0)
  where
    go : Dec (j ≡ 0) → Q j
    go (yes e) = subst Q (sym e) q₀
    go (no other) = let e : 1 ≡ j = omega arith in subst Q e q₁

-- the numbers of a resource
module _ {b : Block} {i j : ℕ} where
  pub spans_absent : L.resources b ≤ j → Spans b i j 0 1
  spans_absent none = record { each = λ n. (to n, λ l. A.absent none (omega arith)); some = omega arith; few = omega arith; bytes = omega arith }
    where
      to : (n : ℕ) → Shows b i j n → (0 ≤ n) × (n < 1)
      to n (A.limited l _ _) = absurd (omega arith)
      to n (A.unlimited l _ _) = absurd (omega arith)
      to n (A.absent _ e) = omega arith

  pub spans_unlimited : j < L.resources b → L.bound b i j ≡ L.unlimited → Spans b i j L.unlimited (L.unlimited + 1)
  spans_unlimited l un = record { each = λ n. (to n, λ h. A.unlimited l un (omega arith)); some = omega arith; few = omega arith; bytes = omega arith }
    where
      to : (n : ℕ) → Shows b i j n → (L.unlimited ≤ n) × (n < L.unlimited + 1)
      to n (A.limited _ lim _) = absurd (lim un)
      to n (A.unlimited _ _ e) = omega arith
      to n (A.absent none _) = absurd (omega arith)

  pub spans_limited : j < L.resources b → (L.bound b i j ≡ L.unlimited → ⊥) → Spans b i j 0 (L.max_units + 1)
  spans_limited l lim = record { each = λ n. (to n, λ h. A.limited l lim (omega arith)); some = omega arith; few = omega arith; bytes = omega arith }
    where
      to : (n : ℕ) → Shows b i j n → (0 ≤ n) × (n < L.max_units + 1)
      to n (A.limited _ _ small) = omega arith
      to n (A.unlimited _ un _) = absurd (lim un)
      to n (A.absent none _) = absurd (omega arith)

-- they are bytes
pub shows_byte : {b : Block} {i j n : ℕ} → Shows b i j n → n < 256
shows_byte (A.limited _ _ small) = omega arith
shows_byte (A.unlimited _ _ e) = omega arith
shows_byte (A.absent _ e) = omega arith

same? : (x y : Allowance) → Dec (Same x y)
same? x y = all_below (λ j. x j ≡ y j) L.max_resources (λ j _. eq? (x j) (y j))

module _ {b : Block} (valid : Valid b) {i : ℕ} (q : ℕ) {first₀ end₀ first₁ end₁ : ℕ} (zeroth : Spans b i 0 first₀ end₀) (other : Spans b i 1 first₁ end₁) where
  pair_bounds : (x : Allowance) → bounds_by b (pair (x 0) (x 1)) ≡ bounds_by b x
  pair_bounds x = bounds_same b b refl (pair (x 0) (x 1)) x λ r l.
      two (λ j. pair (x 0) (x 1) j ≡ x j) refl refl r (omega (arith, valid.sized.resources_fit))

  to_pair : (x : Allowance) → Suffices b i q x → ((first₀ ≤ x 0) × (x 0 < end₀)) × ((first₁ ≤ x 1) × (x 1 < end₁)) × Enough b i q (x 0) (x 1)
  to_pair x (shows, met) = (
    (zeroth.each (x 0)).0 (shows 0 (omega arith)),
    (other.each (x 1)).0 (shows 1 (omega arith)),
    subst (λ (bounds : Bounds). RowTrueWith b i bounds q) (sym (pair_bounds x)) met,
  )

  from_pair : (x : Allowance) → (first₀ ≤ x 0) × (x 0 < end₀) → (first₁ ≤ x 1) × (x 1 < end₁) → Enough b i q (x 0) (x 1) → Suffices b i q x
  from_pair x l₀ l₁ met = (
    two (λ j. Shows b i j (x j)) ((zeroth.each (x 0)).1 l₀) ((other.each (x 1)).1 l₁),
    subst (λ (bounds : Bounds). RowTrueWith b i bounds q) (pair_bounds x) met,
  )

  module _ (list : List ℕ) {n end : ℕ} (stairs : Stairs (Enough b i q) first₀ first₁ end₁ (λ k. allowance_in list k 0) (λ k. allowance_in list k 1) n end₀ end) where
    listed_suffices : (k : ℕ) → k < n → Suffices b i q (allowance_in list k)
    listed_suffices k l =
        let inside = stairs.inside k l in
        from_pair (allowance_in list k) (inside.0, inside.1) (omega (arith, inside, stairs.last), inside.3) (stairs.best k l).has

    enough : (x : Allowance) → Suffices b i q x → Some n (λ k. NowhereLarger (allowance_in list k) x)
    enough x suffices =
        let (l₀, l₁, met) = to_pair x suffices in
        let (k, l, (at₀, at₁)) = stairs.covered (x 0) (x 1) l₀.0 l₀.1 l₁.0 l₁.1 met in
        (k, l, two (λ j. allowance_in list k j ≤ x j) at₀ at₁)

    all : (x : Allowance) → Smallest b i q x → Some n (λ k. Same (allowance_in list k) x)
    all x (suffices, least) = let (k, l, below) = enough x suffices in (k, l, go k l below (same? (allowance_in list k) x))
      where
        go : (k : ℕ) → k < n → NowhereLarger (allowance_in list k) x → Dec (Same (allowance_in list k) x) → Same (allowance_in list k) x
        go k l below (yes same) = same
        go k l below (no differ) = absurd (least (allowance_in list k) below differ (listed_suffices k l))

    pub stairs_listed : ((p : ℕ) → L.max_resources * n ≤ p → get_or list p 0 ≡ 0) → length list ≡ allowances_bytes → AllowancesIn b i q list n
    stairs_listed past long = record {
      each = λ k l. (
        listed_suffices k l,
        λ y below differ suffices.
            let (l₀, l₁, met) = to_pair y suffices in
            let (e₀, e₁) = (stairs.best k l).only (y 0) (y 1) l₀.0 l₁.0 (below 0 (omega arith)) (below 1 (omega arith)) met in
            differ (two (λ j. y j ≡ allowance_in list k j) e₀ e₁),
      );
      rising = stairs.rising;
      all = all;
      enough = enough;
      past = past;
      fits = omega (arith, stairs.few, zeroth.few);
      long = long;
    }
