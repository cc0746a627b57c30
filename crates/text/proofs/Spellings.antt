-- How the bytes of a block are spelled (specs' Spelling): which bytes fit a field, and that no text begins with two spellings of one field.
--     Fits x v          v is the byte of a spelling that may stand there
--     Clear x           a text begins with one spelling only, and the one that the writer uses for a byte that fits means that byte
-- Assumes nothing.
use mathlib.Core.Bool.{Bool, true, false, cond}
use mathlib.Core.List.{List, [], ◌∷◌, ◌++◌}
use mathlib.Core.Logic.{◌⊎◌, inl, inr, ⊎_elim}
use mathlib.Core.Path.{◌≡◌, refl, sym, ap, subst, ◌∙◌}
use Prim.Native.Nat.{ℕ, zero, suc, ◌≤◌, ◌<◌}
use native.Mathlib.Omega.{arith}
use lib.Dec.{T, ltb, leb, eqb, leb→le, le→leb, ltb→lt, lt→ltb, lit<}
use lib.ListN.{get_or}
use borrow.Author.Tests.{lt-ltb, ne_eqb}
use Rattle.block.specs.Layout.{sum_kind, max_kind}
use Rattle.block.specs.declared.refusal.Refusal.{Refusal}
use Rattle.block.specs.declared.refusal.Refusal.TheVariants.{Form}
use Rattle.text.specs.Numeral.{ascii, comma, line_end, decimal, Starts}
use Rattle.text.specs.declared.sizes.Edition.{Edition}
use Rattle.text.specs.declared.sizes.Edition.TheVariants.{First, Second}
use Rattle.text.specs.Format.{Spelling}
use Rattle.text.specs.Job.{by_edition, both, either, number, list_end, bound_field, bound, kind_word, kind_spelling, resource_word, resource_spelling}
use Rattle.text.proofs.Decimals.{lt_or_ge, first_digit, only_one}

abbrev pub Fits : Spelling → ℕ → Type 0
Fits x v = (o : ℕ) × (o < x.options) × T (x.allowed o) × (x.byte o ≡ v)

pub record Clear (x : Spelling) : Type 0 where
  pub only : (t : List ℕ) (o o' : ℕ) → o < x.options → o' < x.options → Starts (x.spell o) t → Starts (x.spell o') t → o ≡ o'
  pub meant : (v : ℕ) → Fits x v → (x.chosen v < x.options) × T (x.allowed (x.chosen v)) × (x.byte (x.chosen v) ≡ v)

-- the byte after a field of a list is no digit
pub list_end_small : (left : ℕ) → list_end left < 48
list_end_small left = either (eqb left 0)
  where
    either : (t : Bool) → cond t line_end comma < 48
    either true = lit< tt
    either false = lit< tt

-- a number
pub both_true : (a b : Bool) → T a → T b → T (both a b)
both_true true b p q = q
both_true false b p q = p

pub both_left : (a b : Bool) → T (both a b) → T a
both_left true b p = tt
both_left false b p = p

pub both_right : (a b : Bool) → T (both a b) → T b
both_right true b p = p
both_right false b p = absurd p

-- what fits does not depend on the byte after the number, nor on the refusal
module _ (low limit : ℕ) where
  abbrev pub FitsNumber : ℕ → Type 0
  FitsNumber v = Fits (number comma low limit Form) v

  pub number_range : {v : ℕ} → FitsNumber v → (low ≤ v) × (v < limit) × (v < 256)
  number_range f =
      let l = leb→le low f.0 (both_left (leb low f.0) (ltb f.0 limit) f.2) in
      let g = ltb→lt f.0 limit (both_right (leb low f.0) (ltb f.0 limit) f.2) in
      omega arith

  pub number_fits : {v : ℕ} → low ≤ v → v < limit → v < 256 → FitsNumber v
  number_fits {v} l g h = (v, h, both_true (leb low v) (ltb v limit) (le→leb low v l) (lt→ltb v limit g), refl)

  pub number_clear : (sep : ℕ) (r : Refusal) → sep < 48 → Clear (number sep low limit r)
  unfolding number_fits
  number_clear sep r h = record {
    only = λ t o o' l l' s s'. only_one sep h o o' l l' t s s';
    meant = λ v f. let g = number_range f in let n = number_fits g.0 g.1 g.2 in (n.1, n.2, n.3);
  }

pub either_true : (a b : Bool) → T a ⊎ T b → T (either a b)
either_true true b p = tt
either_true false b (inl p) = absurd p
either_true false b (inr q) = q

pub either_case : (a b : Bool) → T (either a b) → T a ⊎ T b
either_case true b p = inl p
either_case false b p = inr p

-- a bound is spelled as a number, inf or nothing
bound_cases : {P : Type 0} (o : ℕ) → o < 258 → (o < 256 → P) → (o ≡ 256 → P) → (o ≡ 257 → P) → P
bound_cases o h number inf nothing = ⊎_elim number (λ l. ⊎_elim (λ k. inf (omega arith)) (λ k. nothing (omega arith)) (lt_or_ge o 257)) (lt_or_ge o 256)

-- a number is spelled as in every field, and stands for itself
pub bound_spelled : (o : ℕ) → o < 256 → bound.spell o ≡ decimal o ++ comma ∷ []
unfolding bound_field
bound_spelled o h = simp (lt-ltb o 256 h)

pub bound_itself : {o : ℕ} → o < 256 → bound.byte o ≡ o
bound_itself h = simp (lt-ltb _ 256 h)

bound_inf : bound_field 256 ≡ ascii "inf"
unfolding bound_field
bound_inf = refl

bound_none : bound_field 257 ≡ []
unfolding bound_field
bound_none = refl

-- the spelling that a text begins with shows in its first byte
data BoundShape (o : ℕ) (t : List ℕ) : Type 0 where
  small : o < 256 → Starts (decimal o ++ comma ∷ []) t → 48 ≤ get_or t 0 0 → get_or t 0 0 < 58 → BoundShape o t
  inf : o ≡ 256 → get_or t 0 0 ≡ 105 → BoundShape o t
  none : o ≡ 257 → get_or t 0 0 ≡ 44 → BoundShape o t

bound_shape : (o : ℕ) (t : List ℕ) → o < 258 → Starts (bound_field o ++ comma ∷ []) t → BoundShape o t
bound_shape o t h s = bound_cases o h below at_inf at_none
  where
    below : o < 256 → BoundShape o t
    below l = let d : Starts (decimal o ++ comma ∷ []) t = rw (bound_spelled o l) at s in let f = first_digit comma o t (omega arith) d in small l d f.0 f.1

    at_inf : o ≡ 256 → BoundShape o t
    at_inf e = let d : t ≡ (ascii "inf" ++ comma ∷ []) ++ s.0 = rw (e, bound_inf) at s.1 in inf e (rw d)

    at_none : o ≡ 257 → BoundShape o t
    at_none e = let d : t ≡ comma ∷ s.0 = rw (e, bound_none) at s.1 in none e (rw d)

bound_only : (t : List ℕ) (o o' : ℕ) → o < 258 → o' < 258 → Starts (bound_field o ++ comma ∷ []) t → Starts (bound_field o' ++ comma ∷ []) t → o ≡ o'
bound_only t o o' l l' s s' = same (bound_shape o t l s) (bound_shape o' t l' s')
  where
    same : BoundShape o t → BoundShape o' t → o ≡ o'
    same (small h d x y) (small h' d' x' y') = only_one comma (lit< tt) o o' h h' t d d'
    same (small h d x y) (inf e c) = absurd (omega arith)
    same (small h d x y) (none e c) = absurd (omega arith)
    same (inf e c) (small h' d' x' y') = absurd (omega arith)
    same (inf e c) (inf e' c') = omega arith
    same (inf e c) (none e' c') = absurd (omega arith)
    same (none e c) (small h' d' x' y') = absurd (omega arith)
    same (none e c) (inf e' c') = absurd (omega arith)
    same (none e c) (none e' c') = omega arith

-- inf stands for 255, and nothing for 0
pub bound_range : {v : ℕ} → Fits bound v → (v < 16) ⊎ (v ≡ 255)
bound_range {v} (o, l, allowed, e) = bound_cases o l number (λ q. inr (sym e ∙ ap bound.byte q)) nothing
  where
    number : o < 256 → (v < 16) ⊎ (v ≡ 255)
    number h = let same : v ≡ o = sym e ∙ bound_itself h in ⊎_elim (λ k. inl (omega (arith, ltb→lt o 16 k))) (λ k. absurd (omega (arith, leb→le 256 o k))) (either_case (ltb o 16) (leb 256 o) allowed)

    nothing : o ≡ 257 → (v < 16) ⊎ (v ≡ 255)
    nothing q = let zeroed : v ≡ 0 = sym e ∙ ap bound.byte q in inl (omega arith)

pub bound_fits : {v : ℕ} → (v < 16) ⊎ (v ≡ 255) → Fits bound v
bound_fits {v} (inl h) = (v, omega arith, either_true (ltb v 16) (leb 256 v) (inl (lt→ltb v 16 h)), bound_itself (omega arith))
bound_fits {v} (inr e) = (256, lit< tt, tt, sym e)

pub bound_clear : Clear bound
unfolding bound_fits
bound_clear = record {
  only = bound_only;
  meant = λ v f. meant v (bound_range f);
}
  where
    meant : (v : ℕ) → (v < 16) ⊎ (v ≡ 255) → (bound.chosen v < 258) × T (bound.allowed (bound.chosen v)) × (bound.byte (bound.chosen v) ≡ v)
    meant v (inl h) = let n = bound_fits (inl h) in rw (ne_eqb v 255 (omega arith)) (n.1, n.2, n.3)
    meant v (inr e) = rw e (lit< tt, tt, refl)

-- a kind: the word that a text begins with shows in its first two bytes
word_of : List ℕ → ℕ
word_of t =
    cond (eqb (get_or t 0 0) 112) 0
    (cond (eqb (get_or t 0 0) 111) 2
    (cond (eqb (get_or t 0 0) 97) 4
    (cond (eqb (get_or t 0 0) 117) 5
    (cond (eqb (get_or t 1 0) 111) 1 3))))

word_of_lem : (t : List ℕ) (k : ℕ) → k < 6 → Starts (kind_word k) t → word_of t ≡ k
unfolding kind_word word_of
word_of_lem t zero h s = rw s.1
word_of_lem t (suc zero) h s = rw s.1
word_of_lem t (suc (suc zero)) h s = rw s.1
word_of_lem t (suc (suc (suc zero))) h s = rw s.1
word_of_lem t (suc (suc (suc (suc zero)))) h s = rw s.1
word_of_lem t (suc (suc (suc (suc (suc zero))))) h s = rw s.1
word_of_lem t (suc (suc (suc (suc (suc (suc k)))))) h s = absurd (omega arith)

pub kind_range : {v : ℕ} → Fits kind_spelling v → v < 6
kind_range f = omega arith

pub kind_fits : {v : ℕ} → v < 6 → Fits kind_spelling v
kind_fits {v} h = (v, h, tt, refl)

pub kind_clear : Clear kind_spelling
kind_clear = record {
  only = λ t o o' l l' s s'. sym (word_of_lem t o l s) ∙ word_of_lem t o' l' s';
  meant = λ v f. (kind_range f, tt, refl);
}

-- the kind of a resource: its word shows in the first byte, and edition 1 has one kind only
resource_of : (t : List ℕ) (k left : ℕ) → k < 2 → Starts (resource_word k ++ list_end left ∷ []) t → cond (eqb (get_or t 0 0) 115) 0 1 ≡ k
unfolding resource_word
resource_of t zero left h s = rw s.1
resource_of t (suc zero) left h s = rw s.1
resource_of t (suc (suc k)) left h s = absurd (omega arith)

-- what fits does not depend on how many follow
abbrev pub FitsResource : Edition → ℕ → Type 0
FitsResource e v = Fits (resource_spelling e 0) v

pub resource_range : (e : Edition) {v : ℕ} → FitsResource e v → v < by_edition e (suc sum_kind) (suc max_kind)
resource_range e f = subst (λ (n : ℕ). n < by_edition e (suc sum_kind) (suc max_kind)) f.3 f.1

pub resource_fits : (e : Edition) {v : ℕ} → v < by_edition e (suc sum_kind) (suc max_kind) → FitsResource e v
resource_fits e {v} h = (v, h, tt, refl)

pub resource_clear : (e : Edition) (left : ℕ) → Clear (resource_spelling e left)
resource_clear e left = record {
  only = only e;
  meant = λ v f. (resource_range e f, tt, refl);
}
  where
    only : (e : Edition) (t : List ℕ) (o o' : ℕ) → o < (resource_spelling e left).options → o' < (resource_spelling e left).options →
        Starts ((resource_spelling e left).spell o) t → Starts ((resource_spelling e left).spell o') t → o ≡ o'
    only First t o o' l l' s s' = omega arith
    only Second t o o' l l' s s' = sym (resource_of t o left l s) ∙ resource_of t o' left l' s'
