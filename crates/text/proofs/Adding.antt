-- Steps of writing (specs' Adds): one byte, a word, the digits of a number. Assumes nothing.
use mathlib.Core.List.{List, [], ◌∷◌, ◌++◌, append_assoc, append-nil}
use mathlib.Core.Path.{◌≡◌, refl, sym, ap, ◌∙◌}
use Prim.Native.Nat.{ℕ, zero, suc, ◌+◌, ◌-◌, ◌≤◌, ◌<◌}
use native.Mathlib.Nat.{add-zero, zero-add, suc-add}
use native.Mathlib.Numerals.{add-one}
use native.Mathlib.Omega.{arith}
use lib.ListN.{length, get_or, take, drop, set}
use lib.Seq.{take-suc, take-suc-set, take_all, drop-nil, drop-set-lt}
use Rattle.text.specs.declared.output.Output.{Output}
use Rattle.text.specs.Inner.Adding.{front, Adds, AddsAt, Untouched, UntouchedAt}

-- a byte stored at a place
pub byte_added : (t : List ℕ) (at x : ℕ) → at < length t → AddsAt (x ∷ []) t at (set t at x) (at + 1)
byte_added t at x h rest = rw (add-one, take-suc-set t at x, append_assoc) refl

drop_more : (m k : ℕ) (l : List ℕ) → drop (m + k) l ≡ drop k (drop m l)
drop_more zero k l = ap (λ (n : ℕ). drop n l) (zero-add k)
drop_more (suc m) k [] = drop-nil (suc m + k) ∙ sym (drop-nil k)
drop_more (suc m) k (x ∷ l) = ap (λ (n : ℕ). drop n (x ∷ l)) (suc-add m k) ∙ drop_more m k l

-- from a later place on too
pub untouched_later : (t u : List ℕ) (m n : ℕ) → m ≤ n → UntouchedAt t u m → UntouchedAt t u n
untouched_later t u m n later same =
    let sum : m + (n - m) ≡ n = omega arith in
    ap (λ (k : ℕ). drop k u) (sym sum) ∙ drop_more m (n - m) u ∙ ap (drop (n - m)) same ∙ sym (drop_more m (n - m) t) ∙ ap (λ (k : ℕ). drop k t) sum

-- i bytes of a word have been stored
pub record Begun (w t : List ℕ) (at : ℕ) (u : List ℕ) (i : ℕ) : Type 0 where
  pub so : take (at + i) u ≡ take at t ++ take i w
  pub after : UntouchedAt t u (at + i)

pub begun_none : {w t : List ℕ} {at : ℕ} → Begun w t at t 0
begun_none {w} {t} {at} = record { so = rw (add-zero, append-nil) refl; after = refl }

module _ {w t u : List ℕ} {at i : ℕ} (b : Begun w t at u i) where
  pub begun_more : i < length w → at + i < length u → Begun w t at (set u (at + i) (get_or w i 0)) (i + 1)
  begun_more h l =
      let next : at + (i + 1) ≡ suc (at + i) = omega arith in
      record {
        so = rw (next, take-suc-set u (at + i) (get_or w i 0), add-one, take-suc w i 0, ← append_assoc) (ap (λ (l : List ℕ). l ++ get_or w i 0 ∷ []) b.so);
        after = drop-set-lt (at + (i + 1)) u (at + i) (get_or w i 0) (omega arith) ∙ untouched_later t u (at + i) (at + (i + 1)) (omega arith) b.after;
      }

  pub begun_all : length w ≤ i → AddsAt w t at u (at + i)
  begun_all h rest = rw (b.so, take_all i w h, append_assoc) refl

-- one step after another leaves what lies behind both
pub untouched_then : (t u v : Output) → u.len ≤ v.len → Untouched t u → Untouched u v → Untouched t v
untouched_then t u v later first second = second ∙ untouched_later t.text.now u.text.now u.len v.len later first

-- one word after another
pub adds_then : (v w : List ℕ) (t u x : Output) → Adds v t u → Adds w u x → Adds (v ++ w) t x
adds_then v w t u x first second rest = second rest ∙ first (w ++ rest) ∙ ap (λ (l : List ℕ). front t ++ l) (sym (append_assoc v w rest))

-- what is then written
pub added_front : (w : List ℕ) (t u : Output) → Adds w t u → front u ≡ front t ++ w
added_front w t u added = sym (append-nil (front u)) ∙ added [] ∙ ap (λ (l : List ℕ). front t ++ l) (append-nil w)
