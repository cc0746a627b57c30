-- Laws of tests that decide a statement (specs' Decides), and of searches (specs' Some).
-- Assumes nothing.
use mathlib.Core.Bool.{Bool, true, false, not}
use mathlib.Core.Logic.{◌⊎◌, inl, inr, ⊎_elim}
use mathlib.Core.Path.{◌≡◌, refl, sym, subst}
use Prim.Native.Nat.{ℕ, ◌<◌, ◌≤◌}
use native.Mathlib.Omega.{arith}
use lib.Dec.{ltb, leb, eqb}
use borrow.Author.Tests.{ltb-true, ltb-false, leb-true, leb-false, eqb-true, eqb-false}
use Rattle.block.specs.Decide.{Some}
use Rattle.block.specs.Inner.Tests.{Decides, holds, fails}

-- what the test's value tells
pub truth : {P : Type 0} {t : Bool} → Decides P t → t ≡ true → P
truth (holds p) e = p
truth (fails q) e = let z : ◌≡◌ {A = ℕ} 0 1 = cc in absurd (omega arith)

pub falsity : {P : Type 0} {t : Bool} → Decides P t → t ≡ false → P → ⊥
falsity (holds p) e = let z : ◌≡◌ {A = ℕ} 0 1 = cc in absurd (omega arith)
falsity (fails q) e = q

-- the same test decides an equivalent statement, and its negation the opposite
pub same : {P Q : Type 0} {t : Bool} → Decides P t → (P → Q) → (Q → P) → Decides Q t
same (holds p) f g = holds (f p)
same (fails q) f g = fails (λ x. q (g x))

pub opposite : {P Q : Type 0} {t : Bool} → Decides P t → (P → Q → ⊥) → ((P → ⊥) → Q) → Decides Q (not t)
opposite (holds p) f g = fails (f p)
opposite (fails q) f g = holds (g q)

-- a test whose outcome is known
pub yes : {P : Type 0} {t : Bool} → t ≡ true → P → Decides P t
yes {P} e p = subst (Decides P) (sym e) (holds p)

pub no : {P : Type 0} {t : Bool} → t ≡ false → (P → ⊥) → Decides P t
no {P} e q = subst (Decides P) (sym e) (fails q)

-- `||` and `&&`: the first test's value where that settles it, and otherwise the second's
pub or_first : {P Q : Type 0} {t : Bool} → Decides P t → t ≡ true → Decides (P ⊎ Q) t
or_first d e = yes e (inl (truth d e))

pub or_second : {P Q : Type 0} {t u : Bool} → Decides P t → t ≡ false → Decides Q u → Decides (P ⊎ Q) u
or_second d e f = same f inr (λ x. ⊎_elim (λ p. absurd (falsity d e p)) (λ q. q) x)

pub and_first : {P Q : Type 0} {t : Bool} → Decides P t → t ≡ false → Decides (P × Q) t
and_first d e = no e (λ x. falsity d e x.0)

pub and_second : {P Q : Type 0} {t u : Bool} → Decides P t → t ≡ true → Decides Q u → Decides (P × Q) u
and_second d e f = same f (λ q. (truth d e, q)) (λ x. x.1)

-- the tests on numbers
by_truth : {P : Type 0} (t : Bool) → (t ≡ true → P) → (t ≡ false → P → ⊥) → Decides P t
by_truth true f g = holds (f refl)
by_truth false f g = fails (g refl)

pub less : (a b : ℕ) → Decides (a < b) (ltb a b)
less a b = by_truth (ltb a b) (ltb-true a b) (λ e h. let g = ltb-false a b e in omega arith)

pub at_most : (a b : ℕ) → Decides (a ≤ b) (leb a b)
at_most a b = by_truth (leb a b) (leb-true a b) (λ e h. let g = leb-false a b e in omega arith)

pub equal : (a b : ℕ) → Decides (a ≡ b) (eqb a b)
equal a b = by_truth (eqb a b) (eqb-true a b) (eqb-false a b)

-- a search that has passed every number below n found nothing
pub nothing : {P : ℕ → Type 0} {i n : ℕ} → n ≤ i → ((k : ℕ) → k < i → P k → ⊥) → Some n P → ⊥
nothing h none s = none s.0 (omega (arith, h, s.1)) s.2
