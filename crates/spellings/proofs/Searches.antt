-- The search for a field's spelling, word by word. Assumes nothing.
use mathlib.Core.List.{List, [], ◌∷◌, ◌++◌}
use mathlib.Core.Path.{◌≡◌, refl, ap, ◌∙◌}
use Prim.Native.Nat.{ℕ, suc}
use Rattle.std.specs.Prelude.{Option, Some, None}
use Rattle.std.specs.Option.{option_or}
use Rattle.block.specs.Layout.{sum_kind, max_kind, prop_kind, not_kind, or_kind, next_kind, always_kind, until_kind, kinds}
use Rattle.text.specs.declared.sizes.Edition.TheVariants.{Second}
use Rattle.text.specs.Numeral.{ascii, comma, numbers, decimal, found, missing, after, search}
use Rattle.text.specs.Job.{inf_bound, empty_bound, bound_spellings, bound, bound_field, kind_word, list_end, resource_word, resource_spelling}
use Rattle.text.proofs.Spellings.{bound_spelled}
use Rattle.text.proofs.Search.{search_step, search_same}

-- the spellings of a bound: the numbers, then inf, then nothing
pub bound_search : (t : List ℕ) → search bound.spell bound_spellings t ≡ after empty_bound (ascii ",") t (after inf_bound (ascii "inf,") t (search (λ n. decimal n ++ comma ∷ []) numbers t))
unfolding bound_field
bound_search t =
    search_step bound.spell empty_bound t
    ∙ ap (after empty_bound (ascii ",") t)
    (search_step bound.spell inf_bound t ∙ ap (after inf_bound (ascii "inf,") t) (search_same bound.spell (λ n. decimal n ++ comma ∷ []) t numbers bound_spelled))

pub kind_search : (t : List ℕ) → search kind_word kinds t ≡ after until_kind (ascii "until,") t (after always_kind (ascii "always,") t (after next_kind (ascii "next,") t (after or_kind (ascii "or,") t (after not_kind (ascii "not,") t (after prop_kind (ascii "prop,") t missing)))))
unfolding search kind_word
kind_search t = refl

pub resource_search : (left : ℕ) (t : List ℕ) → search (resource_spelling Second left).spell 2 t ≡ after max_kind (ascii "max" ++ list_end left ∷ []) t (after sum_kind (ascii "sum" ++ list_end left ∷ []) t missing)
unfolding search resource_word
resource_search left t = refl

-- edition 1 finds sum in every text, and nothing is read
pub silent_search : (t : List ℕ) → search (λ k. []) (suc sum_kind) t ≡ found sum_kind t
unfolding search after
silent_search t = refl

-- what is tried first, second and so on, in either way of bracketing
module _ {A : Type 0} where
  pub or_assoc : (a b c : Option A) → option_or (option_or a b) c ≡ option_or a (option_or b c)
  or_assoc None b c = refl
  or_assoc (Some x) b c = refl

  pub or_nothing : (a : Option A) → option_or a None ≡ a
  or_nothing None = refl
  or_nothing (Some x) = refl
