-- Searches over the numbers below n, by `any`, `all` and `find` of a range, at a closure that decides a statement.
-- Assumes nothing.
use mathlib.Core.Bool.{Bool, true, false}
use mathlib.Core.List.{List, [], ◌∷◌}
use mathlib.Core.Path.{◌≡◌, refl, sym, subst}
use Prim.Native.Nat.{ℕ, ◌+◌, ◌<◌}
use native.Mathlib.Omega.{arith}
use borrow.Author.Count.{below_none, below_more}
use denote.Param.Members.{Mut}
use Rattle.std.proofs.iter.Yields.{nat_range_steps}
use Rattle.std.specs.Borrow.{Bor}
use Rattle.std.specs.Fn.{Called, CalledAt}
use Rattle.std.specs.Iterator.{Yields, YieldsThen, ChecksAny, ChecksAll, FindsItem}
use Rattle.std.specs.List.{FoldsTo}
use Rattle.std.specs.Prelude.{MatchOption, IfSome, Option, None}
use Rattle.std.specs.Prelude as Std
use Rattle.std.specs.declared.ops.Range.{Range}
use Rattle.block.specs.Decide.{Some}
use Rattle.block.specs.Inner.Tests.{Decides, holds, fails}
use Rattle.block.proofs.Decide as D

-- what the calls that went on tell of the numbers that came, and where the range stands then
module _ {F : Type 0} (Calls : F → ℕ → F → Type 0) (f : F) (n : ℕ) (Q : ℕ → Type 0) (tells : (x : ℕ) (q : F) → x < n → Calls f x q → (q ≡ f) × Q x) where
  abbrev Past : Range ℕ → F → Type 0
  Past t j = (j ≡ f) × (t.end ≡ n) × ((k : ℕ) → k < t.start → Q k)

  on : (xs : List ℕ) (s t : Range ℕ) (j : F) → s.end ≡ n → ((k : ℕ) → k < s.start → Q k) → Yields nat_range_steps s xs t → FoldsTo Calls f xs j → Past t j
  on [] s t j e before y c = subst (λ r. Past r j) y (sym c, e, before)
  on (x ∷ xs) s t j e before y c =
      let here : (c.0 ≡ f) × Q x = tells x c.0 (omega (arith, y.1.1.0, y.1.1.1, e)) c.1 in
      let more : (k : ℕ) → k < s.start + 1 → Q k = below_more Q s.start before (subst Q y.1.1.1 here.1) in
      on xs y.0 t j (omega (arith, y.1.0, e)) (subst (λ m. (k : ℕ) → k < m → Q k) (sym y.1.1.2) more) y.2 (subst (λ p. FoldsTo Calls p xs j) here.0 c.2)

  passed : (xs : List ℕ) (s t : Range ℕ) (j : F) → s.start ≡ 0 → s.end ≡ n → Yields nat_range_steps s xs t → FoldsTo Calls f xs j → Past t j
  passed xs s t j from to = on xs s t j to (subst (λ m. (k : ℕ) → k < m → Q k) (sym from) (below_none Q))

-- a call of the closure answers b, and when it decides P of the numbers below n and stays as it was
abbrev pub Says : {F : Type 0} → Mut F (ℕ × Unit {0}) Bool → Bool → F → ℕ → F → Type 0
Says g b p x q = Called g p (x, tt) b q

abbrev pub SaysAt : {F : Type 0} → Mut F (Bor ℕ × Unit {0}) Bool → Bool → F → ℕ → F → Type 0
SaysAt g b p x q = CalledAt g p x b q

abbrev pub Tells : {F : Type 0} → (Bool → F → ℕ → F → Type 0) → F → ℕ → (ℕ → Type 0) → Type 0
Tells {F} Calls f n P = (x : ℕ) (b : Bool) (q : F) → x < n → Calls b f x q → (q ≡ f) × Decides (P x) b

module _ {F : Type 0} (Calls : Bool → F → ℕ → F → Type 0) (f : F) (n : ℕ) (P : ℕ → Type 0) (tells : Tells Calls f n P) where
  missed : (x : ℕ) (q : F) → x < n → Calls false f x q → (q ≡ f) × (P x → ⊥)
  missed x q h k = ((tells x false q h k).0, D.falsity (tells x false q h k).1 refl)

  met : (x : ℕ) (q : F) → x < n → Calls true f x q → (q ≡ f) × P x
  met x q h k = ((tells x true q h k).0, D.truth (tells x true q h k).1 refl)

  any_at : (s u : Range ℕ) (o : Option ℕ) (r : Bool) (xs : List ℕ) (j : F) → s.start ≡ 0 → s.end ≡ n → YieldsThen nat_range_steps s xs o u → FoldsTo (Calls false) f xs j
      → MatchOption o (r ≡ false) (λ x. (r ≡ true) × ((h : F) × Calls true j x h)) → Decides (Some n P) r
  any_at s u None r xs j from to y c e =
      let past = passed (Calls false) f n (λ x. P x → ⊥) missed xs s y.0 j from to y.1 c in
      subst (Decides (Some n P)) (sym e) (fails (D.nothing (omega (arith, y.2.1.0, past.1)) past.2))
  any_at s u (Std.Some x) r xs j from to y c e =
      let past = passed (Calls false) f n (λ x. P x → ⊥) missed xs s y.0 j from to y.1 c in
      let low : x < n = omega (arith, y.2.1.0, y.2.1.1, past.1) in
      subst (Decides (Some n P)) (sym e.0) (holds (x, low, (met x e.1.0 low (subst (λ p. Calls true p x e.1.0) past.0 e.1.1)).1))

  all_at : (s u : Range ℕ) (o : Option ℕ) (r : Bool) (xs : List ℕ) (j : F) → s.start ≡ 0 → s.end ≡ n → YieldsThen nat_range_steps s xs o u → FoldsTo (Calls true) f xs j
      → MatchOption o (r ≡ true) (λ x. (r ≡ false) × ((h : F) × Calls false j x h)) → Decides ((x : ℕ) → x < n → P x) r
  all_at s u None r xs j from to y c e =
      let past = passed (Calls true) f n P met xs s y.0 j from to y.1 c in
      subst (Decides ((x : ℕ) → x < n → P x)) (sym e) (holds (λ k h. past.2 k (omega (arith, h, y.2.1.0, past.1))))
  all_at s u (Std.Some x) r xs j from to y c e =
      let past = passed (Calls true) f n P met xs s y.0 j from to y.1 c in
      let low : x < n = omega (arith, y.2.1.0, y.2.1.1, past.1) in
      subst (Decides ((x : ℕ) → x < n → P x)) (sym e.0) (fails (λ w. (missed x e.1.0 low (subst (λ p. Calls false p x e.1.0) past.0 e.1.1)).1 (w x low)))

  first_at : (s u : Range ℕ) (r : Option ℕ) (xs : List ℕ) (j : F) → s.start ≡ 0 → s.end ≡ n → YieldsThen nat_range_steps s xs r u → FoldsTo (Calls false) f xs j
      → IfSome r (λ x. (h : F) × Calls true j x h)
      → MatchOption r ((k : ℕ) → k < n → P k → ⊥) (λ i. (i < n) × P i × ((k : ℕ) → k < i → P k → ⊥))
  first_at s u None xs j from to y c e =
      let past = passed (Calls false) f n (λ x. P x → ⊥) missed xs s y.0 j from to y.1 c in
      λ k h. past.2 k (omega (arith, h, y.2.1.0, past.1))
  first_at s u (Std.Some x) xs j from to y c e =
      let past = passed (Calls false) f n (λ x. P x → ⊥) missed xs s y.0 j from to y.1 c in
      let low : x < n = omega (arith, y.2.1.0, y.2.1.1, past.1) in
      (low, (met x e.0 low (subst (λ p. Calls true p x e.0) past.0 e.1)).1, λ k h. past.2 k (omega (arith, h, y.2.1.1)))

-- `any` over 0..n
pub any_below : {F : Type 0} {g : Mut F (ℕ × Unit {0}) Bool} {f : F} {n : ℕ} {P : ℕ → Type 0} {s u : Range ℕ} {r : Bool}
    → Tells (Says g) f n P → ChecksAny nat_range_steps g s f r u → s.start ≡ 0 → s.end ≡ n → Decides (Some n P) r
any_below {g = g} {f = f} {n = n} {P = P} {s = s} {u = u} {r = r} tells c from to = any_at (Says g) f n P tells s u c.1 r c.0 c.2 from to c.3 c.4 c.5

-- `all` over 0..n
pub all_below : {F : Type 0} {g : Mut F (ℕ × Unit {0}) Bool} {f : F} {n : ℕ} {P : ℕ → Type 0} {s u : Range ℕ} {r : Bool}
    → Tells (Says g) f n P → ChecksAll nat_range_steps g s f r u → s.start ≡ 0 → s.end ≡ n → Decides ((x : ℕ) → x < n → P x) r
all_below {g = g} {f = f} {n = n} {P = P} {s = s} {u = u} {r = r} tells c from to = all_at (Says g) f n P tells s u c.1 r c.0 c.2 from to c.3 c.4 c.5

-- `find` over 0..n: the first below n of which P holds, or none
pub first_below : {F : Type 0} {g : Mut F (Bor ℕ × Unit {0}) Bool} {f : F} {n : ℕ} {P : ℕ → Type 0} {s : Range ℕ} (u : Range ℕ) (r : Option ℕ)
    → Tells (SaysAt g) f n P → FindsItem nat_range_steps g s f r u → s.start ≡ 0 → s.end ≡ n
    → MatchOption r ((k : ℕ) → k < n → P k → ⊥) (λ i. (i < n) × P i × ((k : ℕ) → k < i → P k → ⊥))
first_below {g = g} {f = f} {n = n} {P = P} {s = s} u r tells c from to = first_at (SaysAt g) f n P tells s u r c.0 c.1 from to c.2 c.3 c.4
