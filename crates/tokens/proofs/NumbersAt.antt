-- What the code's tests of up to four bytes say of the search for a number (specs' search) at a place of a text.
--     Digits            the number n and sep stand in four bytes
--     number_missing    where no number stands in the bytes at the place, none is found
--     number-found      where n and sep fill k bytes there, n is found, with the text after them
-- Assumes nothing.
use mathlib.Core.List.{List, [], ◌∷◌, ◌++◌}
use mathlib.Core.Path.{◌≡◌, sym, ap, ◌∙◌}
use Prim.Native.Nat.{ℕ, ◌+◌, ◌/◌, ◌%◌, ◌≤◌, ◌<◌}
use native.Mathlib.Nat.{add-zero}
use native.Mathlib.Omega.{arith}
use lib.ListN.{get_or, drop}
use lib.Seq.{get_or-drop, drop-drop}
use Rattle.text.specs.Numeral.{decimal, found, missing, search}
use Rattle.text.proofs.Search.{search_found, search_missing}
use Rattle.text.proofs.Decimals as D
use Rattle.text.proofs.Decimals.{Shape, shape, only_one, begins_one, begins_two, begins_three}

pub data Digits (sep n a b c d : ℕ) : Type 0 where
  one : n < 10 → a ≡ 48 + n → b ≡ sep → Digits sep n a b c d
  two : 10 ≤ n → n < 100 → a ≡ 48 + n / 10 → b ≡ 48 + n % 10 → c ≡ sep → Digits sep n a b c d
  three : 100 ≤ n → a ≡ 48 + n / 100 → b ≡ 48 + n / 10 % 10 → c ≡ 48 + n % 10 → d ≡ sep → Digits sep n a b c d

module _ (sep : ℕ) (text : List ℕ) (at : ℕ) where
  -- the byte i places on
  ahead : (i : ℕ) → get_or (drop at text) i 0 ≡ get_or text (at + i) 0
  ahead i = get_or-drop at text i 0

  pub here : get_or (drop at text) 0 0 ≡ get_or text at 0
  here = ahead 0 ∙ ap (λ (m : ℕ). get_or text m 0) (add-zero at)

  digits : {n : ℕ} → Shape sep n (drop at text) → Digits sep n (get_or text at 0) (get_or text (at + 1) 0) (get_or text (at + 2) 0) (get_or text (at + 3) 0)
  digits (D.one h x y) = one h (sym here ∙ x) (sym (ahead 1) ∙ y)
  digits (D.two l h x y z) = two l h (sym here ∙ x) (sym (ahead 1) ∙ y) (sym (ahead 2) ∙ z)
  digits (D.three l x y z w) = three l (sym here ∙ x) (sym (ahead 1) ∙ y) (sym (ahead 2) ∙ z) (sym (ahead 3) ∙ w)

  pub number_missing : ((n : ℕ) → n < 256 → Digits sep n (get_or text at 0) (get_or text (at + 1) 0) (get_or text (at + 2) 0) (get_or text (at + 3) 0) → ⊥) → search (λ n. decimal n ++ sep ∷ []) 256 (drop at text) ≡ missing
  number_missing none = search_missing (λ n. decimal n ++ sep ∷ []) (drop at text) 256 (λ n h s. none n h (digits (shape sep n (drop at text) (omega arith) s)))

  found_after : (k n : ℕ) → sep < 48 → n < 256 → drop at text ≡ (decimal n ++ sep ∷ []) ++ drop k (drop at text) → search (λ n. decimal n ++ sep ∷ []) 256 (drop at text) ≡ found n (drop (at + k) text)
  found_after k n p h e =
      search_found (λ n. decimal n ++ sep ∷ []) (drop at text) 256 n (drop k (drop at text)) h e
      (λ m l s. only_one sep p m n l h (drop at text) s (drop k (drop at text), e))
      ∙ ap (found n) (drop-drop k at text)

  module _ (low : 0 < sep) (high : sep < 48) (n : ℕ) where
    pub found_one : n < 10 → get_or text at 0 ≡ 48 + n → get_or text (at + 1) 0 ≡ sep → search (λ n. decimal n ++ sep ∷ []) 256 (drop at text) ≡ found n (drop (at + 2) text)
    found_one h x y = found_after 2 n high (omega arith) (begins_one sep n (drop at text) low h (here ∙ x) (ahead 1 ∙ y))

    pub found_two : 10 ≤ n → n < 100 → get_or text at 0 ≡ 48 + n / 10 → get_or text (at + 1) 0 ≡ 48 + n % 10 → get_or text (at + 2) 0 ≡ sep → search (λ n. decimal n ++ sep ∷ []) 256 (drop at text) ≡ found n (drop (at + 3) text)
    found_two l h x y z = found_after 3 n high (omega arith) (begins_two sep n (drop at text) low l h (here ∙ x) (ahead 1 ∙ y) (ahead 2 ∙ z))

    pub found_three : 100 ≤ n → n < 256 → get_or text at 0 ≡ 48 + n / 100 → get_or text (at + 1) 0 ≡ 48 + n / 10 % 10 → get_or text (at + 2) 0 ≡ 48 + n % 10 → get_or text (at + 3) 0 ≡ sep → search (λ n. decimal n ++ sep ∷ []) 256 (drop at text) ≡ found n (drop (at + 4) text)
    found_three l h x y z w = found_after 4 n high h (begins_three sep n (drop at text) low l (omega arith) (here ∙ x) (ahead 1 ∙ y) (ahead 2 ∙ z) (ahead 3 ∙ w))
