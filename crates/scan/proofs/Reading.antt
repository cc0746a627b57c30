-- One step of reading (specs' read) for each kind of field, from what was found in the text; and the end of reading, as `?` hands it on.
-- Assumes nothing.
use mathlib.Core.Bool.{Bool, true, false, cond}
use mathlib.Core.List.{List, [], ◌∷◌, ◌++◌}
use mathlib.Core.Path.{◌≡◌, refl, sym, ap, ◌∙◌}
use Prim.Native.Nat.{ℕ}
use Rattle.block.specs.Layout.{Block}
use Rattle.block.specs.declared.layout.Place.{Place}
use Rattle.block.specs.declared.refusal.Refusal.TheVariants.{Form}
use Rattle.text.specs.Numeral.{comma, decimal, Starts, Found, found, missing, search}
use Rattle.text.specs.Format.{Spelling, Format, value, Outcome, refused, store, on_found, read}
use Rattle.text.specs.Job.{index}
use lib.ListN.{drop}
use Rattle.std.specs.Prelude.{Result, Ok, Err, IsErrAnd}
use Rattle.scan.specs.Inner.Step.{resume, resume_with, past_value, value_or}
use Rattle.scan.specs.declared.step.Stop.{Stop}
use Rattle.scan.specs.declared.step.Valued.{Valued}
use Rattle.text.proofs.Search.{after_found, after_other}

module _ (n : ℕ) (t : List ℕ) (f : Format) (b : Block) where
  pub index_next : (rest : List ℕ) → t ≡ (decimal n ++ comma ∷ []) ++ rest → read (index n f) b t ≡ read f b rest
  unfolding index
  index_next rest e = ap (λ (x : Found). on_found x t (λ o u. read f b u)) (after_found 0 (decimal n ++ comma ∷ []) t rest missing e)

  pub index_not : (Starts (decimal n ++ comma ∷ []) t → ⊥) → read (index n f) b t ≡ refused Form t
  unfolding index
  index_not h = ap (λ (x : Found). on_found x t (λ o u. read f b u)) (after_other 0 (decimal n ++ comma ∷ []) t missing h)

module _ (x : Spelling) (p : Place) (k : ℕ → Format) (b : Block) (t : List ℕ) where
  rest_of : ℕ → List ℕ → Outcome
  rest_of o u = cond (x.allowed o) (read (k (x.byte o)) (store b p (x.byte o)) u) (refused (x.refusal o) t)

  pub value_next : (o v : ℕ) (rest : List ℕ) (b' : Block) → search x.spell x.options t ≡ found o rest → x.allowed o ≡ true → x.byte o ≡ v → b' ≡ store b p v →
      read (value x p k) b t ≡ read (k v) b' rest
  unfolding rest_of
  value_next o v rest b' e a w s =
      ap (λ (y : Found). on_found y t rest_of) e
      ∙ ap (λ (q : Bool). cond q (read (k (x.byte o)) (store b p (x.byte o)) rest) (refused (x.refusal o) t)) a
      ∙ ap (λ (n : ℕ). read (k n) (store b p n) rest) w
      ∙ ap (λ (l : Block). read (k v) l rest) (sym s)

  pub value_refused : (o : ℕ) (rest : List ℕ) → search x.spell x.options t ≡ found o rest → x.allowed o ≡ false → read (value x p k) b t ≡ refused (x.refusal o) t
  unfolding rest_of
  value_refused o rest e a =
      ap (λ (y : Found). on_found y t rest_of) e
      ∙ ap (λ (q : Bool). cond q (read (k (x.byte o)) (store b p (x.byte o)) rest) (refused (x.refusal o) t)) a

  pub value_missing : search x.spell x.options t ≡ missing → read (value x p k) b t ≡ refused Form t
  unfolding rest_of
  value_missing e = ap (λ (y : Found). on_found y t rest_of) e

-- past a value reading goes on from the step past it, at any number that stands in where there is none
pub with_law : {A : Type 0} (t : List ℕ) (v : Result (Valued A) Stop) (d : A) (g : A → List ℕ → Outcome) → resume_with t v g ≡ resume t (past_value v) (g (value_or d v))
with_law {A = A} t (Ok v) d g = refl
with_law {A = A} t (Err stop) d g = refl

-- what the exit of a `?` hands on: the stop, whatever was to follow
pub stopped : (t : List ℕ) (r : Result ℕ Stop) (stop : Stop) (k : List ℕ → Outcome) → IsErrAnd r (λ e. e ≡ stop) → refused stop.refusal (drop stop.at t) ≡ resume t r k
stopped t (Ok next) stop k same = elim same [ ]
stopped t (Err e) stop k same = ap (λ (s : Stop). refused s.refusal (drop s.at t)) (sym same)

pub stopped_with : {A : Type 0} (t : List ℕ) (r : Result (Valued A) Stop) (stop : Stop) (k : A → List ℕ → Outcome) → IsErrAnd r (λ e. e ≡ stop) →
    refused stop.refusal (drop stop.at t) ≡ resume_with t r k
stopped_with {A = A} t (Ok v) stop k same = elim same [ ]
stopped_with {A = A} t (Err e) stop k same = ap (λ (s : Stop). refused s.refusal (drop s.at t)) (sym same)
