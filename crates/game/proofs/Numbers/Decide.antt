-- Decisions. Each stops as soon as it can, so that the checker can compute with it. Assumes nothing.
use mathlib.Core.Bool.{Bool, true, false}
use mathlib.Core.Logic.{◌⊎◌, inl, inr}
use mathlib.Core.Path.{◌≡◌, subst}
use Prim.Native.Nat.{ℕ, zero, suc, ◌+◌, ◌≤◌, ◌<◌}
use native.Mathlib.Omega.{arith}
use lib.Dec.{T, leb, leb→le, le→leb, eqb, eqb→eq, eqb_refl}
use Rattle.game.proofs.Numbers.Ranks.{below_suc}

-- what a decision says
abbrev pub is_yes : {P : Type 0} → Dec P → Bool
is_yes (yes _) = true
is_yes (no _) = false

pub from_yes : {P : Type 0} (d : Dec P) → T (is_yes d) → P
from_yes (yes p) t = p
from_yes (no _) t = absurd t

pub not_not : {P : Type 0} → Dec P → ((P → ⊥) → ⊥) → P
not_not (yes h) f = h
not_not (no fails) f = absurd (f fails)

-- numbers
abbrev pub by_test : {P : Type 0} (t : Bool) → (T t → P) → (P → T t) → Dec P
by_test true sound complete = yes (sound tt)
by_test false sound complete = no complete

abbrev pub le? : (m n : ℕ) → Dec (m ≤ n)
le? m n = by_test (leb m n) (leb→le m n) (le→leb m n)

abbrev pub lt? : (m n : ℕ) → Dec (m < n)
lt? m n = le? (suc m) n

pub eq_test : (m n : ℕ) → m ≡ n → T (eqb m n)
eq_test m n e = subst (λ (k : ℕ). T (eqb m k)) e (eqb_refl m)

abbrev pub eq? : (m n : ℕ) → Dec (m ≡ n)
eq? m n = by_test (eqb m n) (eqb→eq m n) (eq_test m n)

-- statements; what stands under a λ is looked at only where it matters
abbrev pub both? : {P Q : Type 0} → Dec P → (P → Dec Q) → Dec (P × Q)
both? (yes p) q? = elim (q? p) [ yes q ↦ yes (p, q) | no fails ↦ no (λ (_, q). fails q) ]
both? (no fails) q? = no (λ (p, _). fails p)

abbrev pub implies? : {P Q : Type 0} → Dec P → (P → Dec Q) → Dec (P → Q)
implies? (yes p) q? = elim (q? p) [ yes q ↦ yes (λ _. q) | no fails ↦ no (λ f. fails (f p)) ]
implies? (no fails) q? = yes (λ p. absurd (fails p))

abbrev pub not? : {P : Type 0} → Dec P → Dec (P → ⊥)
not? (yes p) = no (λ f. f p)
not? (no fails) = yes fails

-- all numbers below n, or some number below n
abbrev pub all_below : (P : ℕ → Type 0) (n : ℕ) → ((i : ℕ) → i < n → Dec (P i)) → Dec ((i : ℕ) → i < n → P i)
all_below P zero P? = yes (λ i l. absurd (omega arith))
all_below P (suc n) P? =
    elim (all_below P n (λ i l. P? i (omega arith))) [
      | yes before ↦ elim (P? n (omega arith)) [ yes here ↦ yes (below_suc {P = P} n before here) | no fails ↦ no (λ all. fails (all n (omega arith))) ]
      | no fails ↦ no (λ all. fails (λ i l. all i (omega arith)))
    ]

pub some_earlier : (P : ℕ → Type 0) (n : ℕ) → (P n → ⊥) → (i : ℕ) × (i < suc n) × P i → (i : ℕ) × (i < n) × P i
some_earlier P n fails (i, l, h) = go (eq? i n)
  where
    go : Dec (i ≡ n) → (j : ℕ) × (j < n) × P j
    go (yes e) = absurd (fails (subst P e h))
    go (no ne) = (i, omega arith, h)

abbrev pub some_below : (P : ℕ → Type 0) (n : ℕ) → ((i : ℕ) → Dec (P i)) → Dec ((i : ℕ) × (i < n) × P i)
some_below P zero P? = no (λ (i, l, _). omega arith)
some_below P (suc n) P? =
    elim (P? n) [
      | yes here ↦ yes (n, omega arith, here)
      | no fails ↦ elim (some_below P n P?) [ yes found ↦ yes (found.0, omega arith, found.2) | no none ↦ no (λ x. none (some_earlier P n fails x)) ]
    ]

abbrev pub either? : {P Q : Type 0} → Dec P → (Unit {0} → Dec Q) → Dec (P ⊎ Q)
either? (yes p) q? = yes (inl p)
either? (no fails) q? = elim (q? tt) [ yes q ↦ yes (inr q) | no fails' ↦ no (elim [ inl p ↦ fails p | inr q ↦ fails' q ]) ]

-- one more number fails
pub none_more : (P : ℕ → Type 0) (n : ℕ) → ((k : ℕ) → k < n → P k → ⊥) → (P n → ⊥) → (k : ℕ) → k < n + 1 → P k → ⊥
none_more P n none fails k l h = go (eq? k n)
  where
    go : Dec (k ≡ n) → ⊥
    go (yes e) = fails (subst P e h)
    go (no ne) = none k (omega arith) h
