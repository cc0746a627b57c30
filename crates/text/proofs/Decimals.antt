-- Numbers in base ten (specs' decimal), digit by digit, and the byte after them, by the bytes of the text.
--     Shape             the bytes of a text that begins with a number below 1000 and sep
--     shape             a text that begins so has those bytes
--     first_digit       it begins with a digit
--     begins            a text with those bytes begins so
--     only_one          it begins so with one number only
-- Assumes nothing.
use mathlib.Core.Bool.{Bool, true, false}
use mathlib.Core.List.{List, [], ◌∷◌, ◌++◌}
use mathlib.Core.Logic.{◌⊎◌, inl, inr, ⊎_elim}
use mathlib.Core.Path.{◌≡◌, refl, sym, ap, ◌∙◌}
use Prim.Native.Nat.{ℕ, zero, suc, ◌+◌, ◌*◌, ◌/◌, ◌%◌, ◌^◌, ◌≤◌, ◌<◌}
use native.Mathlib.Nat.{pow-zero, pow-suc}
use native.Mathlib.Omega.{arith}
use lib.Dec.{ltb}
use lib.ListN.{length, get_or, drop, get_or-eq_default}
use borrow.Author.Tests.{lt-ltb, le-ltb, ltb-true, ltb-false}
use Rattle.text.specs.Numeral.{numeral, decimal_to, decimal, Starts}

-- one number is below another, or not
pub lt_or_ge : (a b : ℕ) → (a < b) ⊎ (b ≤ a)
lt_or_ge a b = go (ltb a b) refl
  where
    go : (t : Bool) → ltb a b ≡ t → (a < b) ⊎ (b ≤ a)
    go true e = inl (ltb-true a b e)
    go false e = inr (ltb-false a b e)

to_one : (k n : ℕ) → n < 10 → decimal_to k n ≡ numeral n ∷ []
unfolding decimal_to
to_one zero n h = refl
to_one (suc k) n h = simp (lt-ltb n 10 h)

to_more : (k n : ℕ) → 10 ≤ n → decimal_to (suc k) n ≡ decimal_to k (n / 10) ++ numeral (n % 10) ∷ []
unfolding decimal_to
to_more k n h = simp (le-ltb n 10 h)

-- any k that is large enough gives the same digits
enough : (j k n : ℕ) → n ≤ j → n ≤ k → decimal_to j n ≡ decimal_to k n
enough zero k n h l = to_one zero n (omega arith) ∙ sym (to_one k n (omega arith))
enough (suc j) zero n h l = to_one (suc j) n (omega arith) ∙ sym (to_one zero n (omega arith))
enough (suc j) (suc k) n h l = ⊎_elim
    (λ small. to_one (suc j) n small ∙ sym (to_one (suc k) n small))
    (λ large. to_more j n large ∙ ap (λ (w : List ℕ). w ++ numeral (n % 10) ∷ []) (enough j k (n / 10) (omega arith) (omega arith)) ∙ sym (to_more k n large))
    (lt_or_ge n 10)

pub decimal_one : (n : ℕ) → n < 10 → decimal n ≡ numeral n ∷ []
decimal_one n h = to_one n n h

pub decimal_more : (n : ℕ) → 10 ≤ n → decimal n ≡ decimal (n / 10) ++ numeral (n % 10) ∷ []
decimal_more zero h = absurd (omega arith)
decimal_more (suc n) h = to_more n (suc n) h ∙ ap (λ (w : List ℕ). w ++ numeral (suc n % 10) ∷ []) (enough n (suc n / 10) (suc n / 10) (omega arith) (omega arith))

pub decimal_two : (n : ℕ) → 10 ≤ n → n < 100 → decimal n ≡ numeral (n / 10) ∷ numeral (n % 10) ∷ []
decimal_two n l h = decimal_more n l ∙ ap (λ (w : List ℕ). w ++ numeral (n % 10) ∷ []) (decimal_one (n / 10) (omega arith))

pub decimal_three : (n : ℕ) → 100 ≤ n → n < 1000 → decimal n ≡ numeral (n / 100) ∷ numeral (n / 10 % 10) ∷ numeral (n % 10) ∷ []
decimal_three n l h =
    let e : n / 10 / 10 ≡ n / 100 = omega arith in
    decimal_more n (omega arith)
    ∙ ap (λ (w : List ℕ). w ++ numeral (n % 10) ∷ []) (decimal_two (n / 10) (omega arith) (omega arith))
    ∙ ap (λ (d : ℕ). numeral d ∷ numeral (n / 10 % 10) ∷ numeral (n % 10) ∷ []) e

-- a number of several digits, without its last, has one digit less
pub fewer : (k n : ℕ) → 10 ≤ n → n < 10 ^ k → (j : ℕ) × ((k ≡ j + 1) × ((0 < j) × (n / 10 < 10 ^ j)))
fewer zero n h l = absurd (omega (arith, pow-zero 10))
fewer (suc zero) n h l = absurd (omega (arith, pow-zero 10, pow-suc 10 0))
fewer (suc (suc j)) n h l = (suc j, (omega arith, (omega arith, omega (arith, pow-suc 10 (suc j)))))

-- a text with the word's bytes begins with the word
pub prefix : (w t : List ℕ) → length w ≤ length t → ((i : ℕ) → i < length w → get_or t i 0 ≡ get_or w i 0) → t ≡ w ++ drop (length w) t
prefix [] t l h = refl
prefix (x ∷ w) [] l h = absurd (omega arith)
prefix (x ∷ w) (y ∷ t) l h =
    let first : y ≡ x = h 0 (omega arith) in
    let others : t ≡ w ++ drop (length w) t = prefix w t (omega arith) (λ i k. h (suc i) (omega arith)) in
    (cc)

pub data Shape (sep n : ℕ) (t : List ℕ) : Type 0 where
  one : n < 10 → get_or t 0 0 ≡ 48 + n → get_or t 1 0 ≡ sep → Shape sep n t
  two : 10 ≤ n → n < 100 → get_or t 0 0 ≡ 48 + n / 10 → get_or t 1 0 ≡ 48 + n % 10 → get_or t 2 0 ≡ sep → Shape sep n t
  three : 100 ≤ n → get_or t 0 0 ≡ 48 + n / 100 → get_or t 1 0 ≡ 48 + n / 10 % 10 → get_or t 2 0 ≡ 48 + n % 10 → get_or t 3 0 ≡ sep → Shape sep n t

pub shape : (sep n : ℕ) (t : List ℕ) → n < 1000 → Starts (decimal n ++ sep ∷ []) t → Shape sep n t
shape sep n t few s = ⊎_elim small (λ l. ⊎_elim (middle l) large (lt_or_ge n 100)) (lt_or_ge n 10)
  where
    small : n < 10 → Shape sep n t
    small h =
        let e : t ≡ numeral n ∷ sep ∷ s.0 = rw (decimal_one n h) at s.1 in
        rw e (one h refl refl)

    middle : 10 ≤ n → n < 100 → Shape sep n t
    middle l h =
        let e : t ≡ numeral (n / 10) ∷ numeral (n % 10) ∷ sep ∷ s.0 = rw (decimal_two n l h) at s.1 in
        rw e (two l h refl refl refl)

    large : 100 ≤ n → Shape sep n t
    large l =
        let e : t ≡ numeral (n / 100) ∷ numeral (n / 10 % 10) ∷ numeral (n % 10) ∷ sep ∷ s.0 = rw (decimal_three n l few) at s.1 in
        rw e (three l refl refl refl refl)

-- it begins with a digit
pub first_digit : (sep n : ℕ) (t : List ℕ) → n < 1000 → Starts (decimal n ++ sep ∷ []) t → (48 ≤ get_or t 0 0) × (get_or t 0 0 < 58)
first_digit sep n t few s = first (shape sep n t few s)
  where
    first : Shape sep n t → (48 ≤ get_or t 0 0) × (get_or t 0 0 < 58)
    first (one h x y) = omega arith
    first (two l h x y z) = omega arith
    first (three l x y z w) = omega arith

whole : (n : ℕ) → n ≡ 100 * (n / 100) + 10 * (n / 10 % 10) + n % 10
whole n = omega arith

cancel : {a b : ℕ} → 48 + a ≡ 48 + b → a ≡ b
cancel e = omega arith

pub only_one : (sep : ℕ) → sep < 48 → (m n : ℕ) → m < 256 → n < 256 → (t : List ℕ) → Starts (decimal m ++ sep ∷ []) t → Starts (decimal n ++ sep ∷ []) t → m ≡ n
only_one sep p m n hm hn t a b = same (shape sep m t (omega arith) a) (shape sep n t (omega arith) b)
  where
    same : Shape sep m t → Shape sep n t → m ≡ n
    same (one h x y) (one h' x' y') = omega arith
    same (one h x y) (two l h' x' y' z') = absurd (omega arith)
    same (one h x y) (three l x' y' z' w') = absurd (omega arith)
    same (two l h x y z) (one h' x' y') = absurd (omega arith)
    same (two l h x y z) (two l' h' x' y' z') = omega arith
    same (two l h x y z) (three l' x' y' z' w') = absurd (omega arith)
    same (three l x y z w) (one h' x' y') = absurd (omega arith)
    same (three l x y z w) (two l' h' x' y' z') = absurd (omega arith)
    same (three l x y z w) (three l' x' y' z' w') =
        let hundreds : m / 100 ≡ n / 100 = cancel (sym x ∙ x') in
        let tens : m / 10 % 10 ≡ n / 10 % 10 = cancel (sym y ∙ y') in
        let units : m % 10 ≡ n % 10 = cancel (sym z ∙ z') in
        whole m ∙ (cc) ∙ sym (whole n)

-- a byte that is not 0 lies within the text
pub within : (t : List ℕ) (i : ℕ) → 0 < get_or t i 0 → i < length t
within t i h = ⊎_elim (λ l. l) (λ g. absurd (let z = get_or-eq_default t 0 {n = i} g in omega arith)) (lt_or_ge i (length t))

pub begins_one : (sep n : ℕ) (t : List ℕ) → 0 < sep → n < 10 → get_or t 0 0 ≡ 48 + n → get_or t 1 0 ≡ sep → t ≡ (decimal n ++ sep ∷ []) ++ drop 2 t
begins_one sep n t p h x y = rw (decimal_one n h) (prefix (numeral n ∷ sep ∷ []) t (within t 1 (omega arith)) bytes)
  where
    bytes : (i : ℕ) → i < 2 → get_or t i 0 ≡ get_or (numeral n ∷ sep ∷ []) i 0
    bytes zero k = x
    bytes (suc zero) k = y
    bytes (suc (suc i)) k = absurd (omega arith)

pub begins_two : (sep n : ℕ) (t : List ℕ) → 0 < sep → 10 ≤ n → n < 100 → get_or t 0 0 ≡ 48 + n / 10 → get_or t 1 0 ≡ 48 + n % 10 → get_or t 2 0 ≡ sep → t ≡ (decimal n ++ sep ∷ []) ++ drop 3 t
begins_two sep n t p l h x y z =
    rw (decimal_two n l h) (prefix (numeral (n / 10) ∷ numeral (n % 10) ∷ sep ∷ []) t (within t 2 (omega arith)) bytes)
  where
    bytes : (i : ℕ) → i < 3 → get_or t i 0 ≡ get_or (numeral (n / 10) ∷ numeral (n % 10) ∷ sep ∷ []) i 0
    bytes zero k = x
    bytes (suc zero) k = y
    bytes (suc (suc zero)) k = z
    bytes (suc (suc (suc i))) k = absurd (omega arith)

pub begins_three : (sep n : ℕ) (t : List ℕ) → 0 < sep → 100 ≤ n → n < 1000 → get_or t 0 0 ≡ 48 + n / 100 → get_or t 1 0 ≡ 48 + n / 10 % 10 → get_or t 2 0 ≡ 48 + n % 10 → get_or t 3 0 ≡ sep → t ≡ (decimal n ++ sep ∷ []) ++ drop 4 t
begins_three sep n t p l few x y z w =
    rw (decimal_three n l few) (prefix (numeral (n / 100) ∷ numeral (n / 10 % 10) ∷ numeral (n % 10) ∷ sep ∷ []) t (within t 3 (omega arith)) bytes)
  where
    bytes : (i : ℕ) → i < 4 → get_or t i 0 ≡ get_or (numeral (n / 100) ∷ numeral (n / 10 % 10) ∷ numeral (n % 10) ∷ sep ∷ []) i 0
    bytes zero k = x
    bytes (suc zero) k = y
    bytes (suc (suc zero)) k = z
    bytes (suc (suc (suc zero))) k = w
    bytes (suc (suc (suc (suc i)))) k = absurd (omega arith)
