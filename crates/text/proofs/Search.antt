-- What a search for a spelling finds (specs' after and search).
--     search_found      where t begins with spelling n and with no other, it is found, with what follows
--     search_missing    where t begins with none of them, nothing is found
--     search_inv        what is found is there
-- Assumes nothing.
use mathlib.Core.Bool.{Bool, true, false, cond}
use mathlib.Core.List.{List, [], ◌∷◌, ◌++◌}
use mathlib.Core.Logic.{◌⊎◌, inl, inr, ⊎_elim}
use mathlib.Core.Path.{◌≡◌, refl, sym, subst, ◌∙◌}
use Prim.Native.Nat.{ℕ, zero, suc, ◌<◌}
use native.Mathlib.Nat.{eq-or-lt_of_le, le_of_suc-le-suc}
use native.Mathlib.Omega.{arith}
use lib.Dec.{eqb}
use borrow.Author.Tests.{eq-eqb, eqb-true, eqb-false}
use Rattle.text.specs.Numeral.{Starts, Found, found, missing, after, search}

after_same : (n : ℕ) (w rest : List ℕ) (other : Found) → after n w (w ++ rest) other ≡ found n rest
unfolding after
after_same n [] rest other = refl
after_same n (x ∷ w) rest other = rw (eq-eqb x x refl) (after_same n w rest other)

pub after_found : (n : ℕ) (w t rest : List ℕ) (other : Found) → t ≡ w ++ rest → after n w t other ≡ found n rest
after_found n w t rest other e = rw e (after_same n w rest other)

tail : (x y : ℕ) (w t : List ℕ) → x ≡ y → Starts w t → Starts (x ∷ w) (y ∷ t)
tail x y w t e s = (s.0, cc (e, s.1))

pub after_other : (n : ℕ) (w t : List ℕ) (other : Found) → (Starts w t → ⊥) → after n w t other ≡ other
unfolding after
after_other n [] t other h = absurd (h (t, refl))
after_other n (x ∷ w) [] other h = refl
after_other n (x ∷ w) (y ∷ t) other h = go (eqb x y) refl (after_other n w t other)
  where
    go : (b : Bool) → eqb x y ≡ b → ((Starts w t → ⊥) → after n w t other ≡ other) → cond b (after n w t other) other ≡ other
    go true e ih = ih (λ s. h (tail x y w t (eqb-true x y e) s))
    go false e ih = refl

-- a word is there or not
pub starts : (w t : List ℕ) → Starts w t ⊎ (Starts w t → ⊥)
starts [] t = inl (t, refl)
starts (x ∷ w) [] = inr (λ s. let z : ◌≡◌ {A = ℕ} 0 1 = cc s.1 in omega arith)
starts (x ∷ w) (y ∷ t) = go (eqb x y) refl (starts w t)
  where
    head_same : Starts (x ∷ w) (y ∷ t) → x ≡ y
    head_same s = cc s.1

    tail_same : Starts (x ∷ w) (y ∷ t) → Starts w t
    tail_same s = (s.0, cc s.1)

    go : (b : Bool) → eqb x y ≡ b → Starts w t ⊎ (Starts w t → ⊥) → Starts (x ∷ w) (y ∷ t) ⊎ (Starts (x ∷ w) (y ∷ t) → ⊥)
    go true e (inl s) = inl (tail x y w t (eqb-true x y e) s)
    go true e (inr h) = inr (λ s. h (tail_same s))
    go false e d = inr (λ s. eqb-false x y e (head_same s))

pub search_step : (spell : ℕ → List ℕ) (n : ℕ) (t : List ℕ) → search spell (suc n) t ≡ after n (spell n) t (search spell n t)
unfolding search
search_step spell n t = refl

module _ (spell : ℕ → List ℕ) (t : List ℕ) where
  pub search_missing : (n : ℕ) → ((m : ℕ) → m < n → Starts (spell m) t → ⊥) → search spell n t ≡ missing
  unfolding search
  search_missing zero h = refl
  search_missing (suc n) h = after_other n (spell n) t (search spell n t) (h n (omega arith)) ∙ search_missing n (λ m l. h m (omega arith))

  pub search_found : (n o : ℕ) (rest : List ℕ) → o < n → t ≡ spell o ++ rest → ((m : ℕ) → m < n → Starts (spell m) t → m ≡ o) → search spell n t ≡ found o rest
  unfolding search
  search_found zero o rest l e only = absurd (omega arith)
  search_found (suc n) o rest l e only = ⊎_elim here (there (search_found n o rest)) (eq-or-lt_of_le (le_of_suc-le-suc l))
    where
      here : o ≡ n → after n (spell n) t (search spell n t) ≡ found o rest
      here q = subst (λ (m : ℕ). after m (spell m) t (search spell n t) ≡ found o rest) q (after_found o (spell o) t rest (search spell n t) e)

      there : (o < n → t ≡ spell o ++ rest → ((m : ℕ) → m < n → Starts (spell m) t → m ≡ o) → search spell n t ≡ found o rest) → o < n → after n (spell n) t (search spell n t) ≡ found o rest
      there ih q =
          after_other n (spell n) t (search spell n t) (λ s. let w = only n (omega arith) s in omega arith)
          ∙ ih q e (λ m h s. only m (omega arith) s)

  pub search_inv : (n o : ℕ) (rest : List ℕ) → search spell n t ≡ found o rest → (o < n) × (t ≡ spell o ++ rest)
  unfolding search
  search_inv zero o rest e = let z : ◌≡◌ {A = ℕ} 0 1 = cc in absurd (omega arith)
  search_inv (suc n) o rest e = ⊎_elim here (there (search_inv n o rest)) (starts (spell n) t)
    where
      here : Starts (spell n) t → (o < suc n) × (t ≡ spell o ++ rest)
      here s =
          let is : found n s.0 ≡ found o rest = sym (after_found n (spell n) t s.0 (search spell n t) s.1) ∙ e in
          let same : n ≡ o = cc in
          let what : s.0 ≡ rest = cc in
          (omega arith, s.1 ∙ (cc))

      there : (search spell n t ≡ found o rest → (o < n) × (t ≡ spell o ++ rest)) → (Starts (spell n) t → ⊥) → (o < suc n) × (t ≡ spell o ++ rest)
      there ih h = let r = ih (sym (after_other n (spell n) t (search spell n t) h) ∙ e) in (omega arith, r.1)

  pub search_none : (n : ℕ) → search spell n t ≡ missing → (m : ℕ) → m < n → Starts (spell m) t → ⊥
  unfolding search
  search_none zero e m h s = omega arith
  search_none (suc n) e m h s = ⊎_elim here (there (search_none n)) (starts (spell n) t)
    where
      here : Starts (spell n) t → ⊥
      here q =
          let is : found n q.0 ≡ missing = sym (after_found n (spell n) t q.0 (search spell n t) q.1) ∙ e in
          let z : ◌≡◌ {A = ℕ} 0 1 = cc in omega arith

      there : (search spell n t ≡ missing → (m : ℕ) → m < n → Starts (spell m) t → ⊥) → (Starts (spell n) t → ⊥) → ⊥
      there ih q =
          ⊎_elim (λ (w : m ≡ n). q (subst (λ (k : ℕ). Starts (spell k) t) w s))
          (λ l. ih (sym (after_other n (spell n) t (search spell n t) q) ∙ e) m l s)
          (eq-or-lt_of_le (le_of_suc-le-suc h))

-- the search depends on the spellings alone
pub search_same : (spell other : ℕ → List ℕ) (t : List ℕ) (n : ℕ) → ((m : ℕ) → m < n → spell m ≡ other m) → search spell n t ≡ search other n t
unfolding search
search_same spell other t zero h = refl
search_same spell other t (suc n) h =
    let last : spell n ≡ other n = h n (omega arith) in
    let rest : search spell n t ≡ search other n t = search_same spell other t n (λ m l. h m (omega arith)) in
    (cc)
