-- More is never worse: with larger bounds the same strategy serves, since its stocks are nowhere smaller. Assumes nothing.
use Prim.Native.Nat.{ℕ, zero, suc, ◌+◌, ◌-◌, ◌≤◌, ◌<◌}
use native.Mathlib.Omega.{arith}
use Rattle.game.specs.Rbatl.{Bound, limit, unlimited, Bounds, full_stock, Pays, remaining, Coalition, Computation, Strategy, Structure, stock_after, Within, Can}

-- b is nowhere above b', where unlimited is the largest
abbrev pub AtMost : Bound → Bound → Type 0
AtMost (limit m) (limit n) = m ≤ n
AtMost unlimited (limit n) = ⊥
AtMost b unlimited = Unit {0}

-- a stock that is nowhere smaller pays as much, and stays nowhere smaller
abbrev AtLeast : Bound → ℕ → ℕ → Type 0
AtLeast (limit n) s s' = s ≤ s'
AtLeast unlimited s s' = Unit {0}

full_more : (b b' : Bound) → AtMost b b' → AtLeast b' (full_stock b) (full_stock b')
full_more (limit m) (limit n) less = less
full_more unlimited (limit n) less = absurd less
full_more (limit m) unlimited less = tt
full_more unlimited unlimited less = tt

pays_more : (b b' : Bound) → AtMost b b' → (s s' c g : ℕ) → AtLeast b' s s' → Pays b s c g → Pays b' s' c g
pays_more (limit m) (limit n) less s s' c g stock paid = omega arith
pays_more unlimited (limit n) less s s' c g stock paid = absurd less
pays_more (limit m) unlimited less s s' c g stock paid = tt
pays_more unlimited unlimited less s s' c g stock paid = tt

left_more : (b b' : Bound) → AtMost b b' → (s s' c g : ℕ) → AtLeast b' s s' → AtLeast b' (remaining b s c g) (remaining b' s' c g)
left_more (limit m) (limit n) less s s' c g stock = let fewer : s + g - c ≤ s' + g - c = omega arith in omega arith
left_more unlimited (limit n) less s s' c g stock = absurd less
left_more (limit m) unlimited less s s' c g stock = tt
left_more unlimited unlimited less s s' c g stock = tt

module _ (S : Structure) (A : Coalition) (b b' : Bounds) (less : (r : ℕ) → r < S.resources → AtMost (b r) (b' r)) where
  stock_more : (F : Strategy) (λs : Computation) (r : ℕ) → r < S.resources → (n : ℕ)
      → AtLeast (b' r) (stock_after S A b (λ j. full_stock (b j)) F λs n r) (stock_after S A b' (λ j. full_stock (b' j)) F λs n r)
  stock_more F λs r l zero = full_more (b r) (b' r) (less r l)
  stock_more F λs r l (suc n) = left_more (b r) (b' r) (less r l) _ _ _ _ (stock_more F λs r l n)

  pub within_more : (F : Strategy) → Within S A b F → Within S A b' F
  within_more F within λs starts consistent n r l = pays_more (b r) (b' r) (less r l) _ _ _ _ (stock_more F λs r l n) (within λs starts consistent n r l)

  pub can_more : (property : Computation → Type 0) (q : ℕ) → Can S A b property q → Can S A b' property q
  can_more property q (F, strategy, within, met) = (F, strategy, within_more F within, met)
