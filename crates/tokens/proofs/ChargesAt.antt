-- What the code finds of a number or a charge at a place of a text (specs' cost_field): by the minus, and by the number after it.
-- Assumes nothing.
use mathlib.Core.List.{List, [], ◌∷◌, ◌++◌}
use mathlib.Core.Path.{◌≡◌, refl, sym, ap, ◌∙◌}
use Prim.Native.Nat.{ℕ, suc, ◌+◌, ◌<◌}
use native.Mathlib.Numerals.{add-one}
use native.Mathlib.Omega.{arith}
use lib.ListN.{get_or, drop}
use lib.Seq.{drop-cons, drop-drop}
use Rattle.text.specs.Numeral.{minus, numbers, decimal, field, Starts, Found, found, missing, search}
use Rattle.text.specs.Job.{last_number, charge, cost_field}
use Rattle.text.proofs.Decimals.{within, only_one}
use Rattle.text.proofs.Search.{search_found, search_missing, search_inv, search_none, search_same}
use Rattle.text.proofs.Costs.{number_spelled, charge_spelled, CostShape, plain, charged, cost_shape, cost_only}
use Rattle.tokens.proofs.NumbersAt.{here}

-- edition 1 has numbers only
pub plain_search : (sep : ℕ) (t : List ℕ) → search (λ o. cost_field o ++ sep ∷ []) numbers t ≡ search (λ n. decimal n ++ sep ∷ []) numbers t
plain_search sep t = search_same (λ o. cost_field o ++ sep ∷ []) (λ n. decimal n ++ sep ∷ []) t numbers (λ o h. ap (λ (w : List ℕ). w ++ sep ∷ []) (number_spelled o h))

module _ (sep : ℕ) (low : sep < 48) (text : List ℕ) (at : ℕ) where
  -- the text from the place on, and what is found there
  abbrev t : List ℕ
  t = drop at text

  abbrev costs : ℕ → List ℕ
  costs o = cost_field o ++ sep ∷ []

  abbrev Finds : Found → Type 0
  Finds r = search costs (numbers + last_number) t ≡ r

  finds : (o : ℕ) (rest : List ℕ) → o < numbers + last_number → t ≡ costs o ++ rest → Finds (found o rest)
  finds o rest l e = search_found costs t (numbers + last_number) o rest l e (λ m h s. cost_only sep low t m o h l s (rest, e))

  -- without a minus
  pub no_minus : (get_or text at 0 ≡ minus → ⊥) → Finds (search (λ n. decimal n ++ sep ∷ []) numbers t)
  no_minus other_byte = on (search (λ n. decimal n ++ sep ∷ []) numbers t) refl
    where
      on : (r : Found) → search (λ n. decimal n ++ sep ∷ []) numbers t ≡ r → Finds r
      on (found n rest) e =
          let is = search_inv (λ n. decimal n ++ sep ∷ []) t numbers n rest e in
          finds n rest (omega arith) (rw (number_spelled n is.0) is.1)
      on missing e = search_missing costs t (numbers + last_number) (λ m h s. other m (cost_shape sep m t s))
        where
          other : (m : ℕ) → CostShape sep m t → ⊥
          other m (plain h d x) = search_none (λ n. decimal n ++ sep ∷ []) t numbers e m h d
          other m (charged h x d) = other_byte (sym (here sep text at) ∙ x)

  -- with one
  module _ (is : get_or text at 0 ≡ minus) where
    begins : t ≡ minus ∷ drop (at + 1) text
    begins = drop-cons text at 0 (within text at (omega arith)) ∙ ap (λ (x : ℕ). x ∷ drop (suc at) text) is ∙ ap (λ (n : ℕ). minus ∷ drop n text) (sym (add-one at))

    pub minus_found : (n : ℕ) (rest : List ℕ) → search (λ n. decimal n ++ sep ∷ []) numbers (drop (at + 1) text) ≡ found n rest → 0 < n → Finds (found (last_number + n) rest)
    minus_found n rest e some =
        let number = search_inv (λ n. decimal n ++ sep ∷ []) (drop (at + 1) text) numbers n rest e in
        let is_charge : charge (last_number + n) ≡ n = omega arith in
        finds (last_number + n) rest (omega arith) (begins ∙ rw (charge_spelled (last_number + n) (omega arith), is_charge) (ap (λ (l : List ℕ). minus ∷ l) number.1))

    nothing : ((n : ℕ) → n < numbers → 0 < n → Starts (field n sep) (drop (at + 1) text) → ⊥) → Finds missing
    nothing none = search_missing costs t (numbers + last_number) (λ m h s. other m h (cost_shape sep m t s))
      where
        other : (m : ℕ) → m < numbers + last_number → CostShape sep m t → ⊥
        other m l (plain h d x) = omega (arith, here sep text at)
        other m l (charged h x d) = none (charge m) (omega arith) (omega arith) (rw (drop-drop 1 at text) at d)

    pub minus_zero : (n : ℕ) (rest : List ℕ) → search (λ n. decimal n ++ sep ∷ []) numbers (drop (at + 1) text) ≡ found n rest → n ≡ 0 → Finds missing
    minus_zero n rest e z =
        let number = search_inv (λ n. decimal n ++ sep ∷ []) (drop (at + 1) text) numbers n rest e in
        nothing (λ m h some s. let same = only_one sep low m n h number.0 (drop (at + 1) text) s (rest, number.1) in omega arith)

    pub minus_alone : search (λ n. decimal n ++ sep ∷ []) numbers (drop (at + 1) text) ≡ missing → Finds missing
    minus_alone e = nothing (λ n h some. search_none (λ n. decimal n ++ sep ∷ []) (drop (at + 1) text) numbers e n h)
