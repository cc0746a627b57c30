-- Words that stand as bytes in a buffer: what storing one does to it and to the others; and one more bit of a word. Assumes nothing.
use mathlib.Core.List.{List, ◌++◌}
use mathlib.Core.Logic.{◌↔◌, ◌⊎◌, inl, inr, ⊎_elim}
use mathlib.Core.Path.{◌≡◌, sym, ◌∙◌, ap, subst}
use Prim.Native.Nat.{ℕ, suc, ◌+◌, ◌*◌, ◌-◌, ◌/◌, ◌%◌, ◌^◌, ◌<◌, ◌≤◌}
use native.Mathlib.Nat.{add-mul-div_right, div-eq_of_lt, div-div-eq-div-mul, div-lt_iff_lt-mul, mod-eq_of_lt, mul-le-mul_left, mul-suc, pow-succ'}
use native.Mathlib.Omega.{arith}
use lib.Pow.{pow_pos, pow-add, shr-shr}
use lib.ListN.{get_or, length, take, set, replicate, length-set, length-replicate, get_or-replicate, get_or-eq_default}
use Rattle.std.proofs.lemmas.Grind.{common_steps}
use borrow.Rule.Slice.PartMut.{put_mid}
use lib.Seq.{get_or-set_same, get_or-set_other, lt-length-set}
use Rattle.block.specs.Decide.{Bit}
use Rattle.block.proofs.Masks.{bit_above, no_bit_above}
use Rattle.turns.specs.Buffers.{rank_in, word_in, narrow_in}
use Rattle.turns.specs.Inner.Stores.{Stored}
use Rattle.game.proofs.Numbers.Decide.{eq?, lt?}

-- a buffer of zeros
pub cleared : (l l' : List ℕ) (n : ℕ) → l' ≡ take 0 l ++ replicate (length l - 0) 0 → length l ≡ n → l' ≡ replicate n 0
cleared l l' n e long = let size : length l - 0 ≡ n = omega arith in e ∙ ap (λ (k : ℕ). replicate k 0) size

-- its bytes and words
pub zero_byte : (n k : ℕ) → get_or {A = ℕ} (replicate n 0) k 0 ≡ 0
zero_byte n k = go (lt? k n)
  where
    go : Dec (k < n) → get_or {A = ℕ} (replicate n 0) k 0 ≡ 0
    go (yes h) = get_or-replicate n k 0 0 h
    go (no h) = get_or-eq_default (replicate {A = ℕ} n 0) 0 {n = k} (omega (arith, length-replicate {A = ℕ} n 0))

pub zero_word : (n i : ℕ) → word_in (replicate n 0) i ≡ 0
zero_word n i = omega (arith, zero_byte n (4 * i), zero_byte n (4 * i + 1), zero_byte n (4 * i + 2), zero_byte n (4 * i + 3))

-- the entries below n are right, and with n's those below n + 1, where the others stay
pub one_more : (entry : List ℕ → ℕ → ℕ) (Right : ℕ → ℕ → Type 0) (l l' : List ℕ) {n : ℕ} → ((k : ℕ) → (k ≡ n → ⊥) → entry l' k ≡ entry l k) → Right n (entry l' n) → ((k : ℕ) → k < n → Right k (entry l k)) → (k : ℕ) → k < n + 1 → Right k (entry l' k)
one_more entry Right l l' {n} others right so_far k small = go (eq? k n)
  where
    go : Dec (k ≡ n) → Right k (entry l' k)
    go (yes e) = subst (λ (j : ℕ). Right j (entry l' j)) (sym e) right
    go (no ne) = subst (Right k) (sym (others k ne)) (so_far k (omega arith))

-- one that is stored
pub stored_more : {entry : List ℕ → ℕ → ℕ} (Right : ℕ → ℕ → Type 0) {l l' : List ℕ} {n v : ℕ} → Stored entry l l' n v → Right n v → ((k : ℕ) → k < n → Right k (entry l k)) → (k : ℕ) → k < n + 1 → Right k (entry l' k)
stored_more {entry} Right {l} {l'} {n} {v} put right = one_more entry Right l l' put.others (subst (Right n) (sym put.stored) right)

-- the bytes before place a and from place b on are as they were
abbrev pub Keeps : List ℕ → List ℕ → ℕ → ℕ → Type 0
Keeps l l' a b = (k : ℕ) → (k < a) ⊎ (b ≤ k) → get_or l' k 0 ≡ get_or l k 0

apart : (k i : ℕ) → (k ≡ i → ⊥) → (k < i) ⊎ (i < k)
apart k i ne = go (lt? k i)
  where
    go : Dec (k < i) → (k < i) ⊎ (i < k)
    go (yes h) = inl h
    go (no h) = inr (omega arith)

-- such a place is none of those between
outside : (k a b c : ℕ) → (k < a) ⊎ (b ≤ k) → a ≤ c → c < b → k ≡ c → ⊥
outside k a b c h low high e = ⊎_elim (λ l. omega arith) (λ l. omega arith) h

-- of entries of w bytes, so are then those of all but entry i, whatever their width
bytes_kept : (w i : ℕ) (l l' : List ℕ) → Keeps l l' (w * i) (w * i + w) → (k : ℕ) → (k ≡ i → ⊥) → (j : ℕ) → w * k ≤ j → j < w * k + w → get_or l' j 0 ≡ get_or l j 0
bytes_kept w i l l' kept k ne j low high = ⊎_elim
    (λ h. kept j (inl (omega (arith, mul-suc w k, mul-le-mul_left {m = suc k} {n = i} w (omega arith)))))
    (λ h. kept j (inr (omega (arith, mul-suc w i, mul-le-mul_left {m = suc i} {n = k} w (omega arith)))))
    (apart k i ne)

rank_kept : (i : ℕ) (l l' : List ℕ) → Keeps l l' (2 * i) (2 * i + 2) → (k : ℕ) → (k ≡ i → ⊥) → rank_in l' k ≡ rank_in l k
rank_kept i l l' kept k ne = let byte = bytes_kept 2 i l l' kept k ne in
    omega (arith, byte (2 * k) (omega arith) (omega arith), byte (2 * k + 1) (omega arith) (omega arith))

narrow_kept : (i : ℕ) (l l' : List ℕ) → Keeps l l' (3 * i) (3 * i + 3) → (k : ℕ) → (k ≡ i → ⊥) → narrow_in l' k ≡ narrow_in l k
narrow_kept i l l' kept k ne = let byte = bytes_kept 3 i l l' kept k ne in
    omega (arith, byte (3 * k) (omega arith) (omega arith), byte (3 * k + 1) (omega arith) (omega arith), byte (3 * k + 2) (omega arith) (omega arith))

word_kept : (i : ℕ) (l l' : List ℕ) → Keeps l l' (4 * i) (4 * i + 4) → (k : ℕ) → (k ≡ i → ⊥) → word_in l' k ≡ word_in l k
word_kept i l l' kept k ne = let byte = bytes_kept 4 i l l' kept k ne in
    omega (arith, byte (4 * k) (omega arith) (omega arith), byte (4 * k + 1) (omega arith) (omega arith), byte (4 * k + 2) (omega arith) (omega arith), byte (4 * k + 3) (omega arith) (omega arith))

-- two bytes of a buffer, those of entry p, and the others
module _ (l : List ℕ) (p x y : ℕ) where
  abbrev pub with_pair : List ℕ
  with_pair = set (set l (2 * p) x) (2 * p + 1) y

  pub pair_other : (k : ℕ) → (k ≡ 2 * p → ⊥) → (k ≡ 2 * p + 1 → ⊥) → get_or with_pair k 0 ≡ get_or l k 0
  pair_other k ne ne' = get_or-set_other (set l (2 * p) x) (2 * p + 1) k y 0 ne' ∙ get_or-set_other l (2 * p) k x 0 ne

  pub pair_stored : 2 * p + 1 < length l → (get_or with_pair (2 * p) 0 ≡ x) × (get_or with_pair (2 * p + 1) 0 ≡ y)
  pair_stored inside = (
    get_or-set_other (set l (2 * p) x) (2 * p + 1) (2 * p) y 0 (λ e. omega arith) ∙ get_or-set_same l (2 * p) x 0 (omega arith),
    get_or-set_same (set l (2 * p) x) (2 * p + 1) y 0 (lt-length-set l (2 * p) x inside),
  )

  pub pair_length : length with_pair ≡ length l
  pair_length = length-set (set l (2 * p) x) (2 * p + 1) y ∙ length-set l (2 * p) x

module _ (l : List ℕ) (p v : ℕ) where
  abbrev pub with_rank : List ℕ
  with_rank = with_pair l p (v % 256) (v / 256 % 256)

  pub rank_stored : 2 * p + 1 < length l → v < 65536 → Stored rank_in l with_rank p v
  rank_stored inside small = record {
    stored = omega (arith, pair_stored l p (v % 256) (v / 256 % 256) inside);
    others = rank_kept p l with_rank (λ k h.
        let none = outside k (2 * p) (2 * p + 2) in
        pair_other l p (v % 256) (v / 256 % 256) k (none (2 * p) h (omega arith) (omega arith)) (none (2 * p + 1) h (omega arith) (omega arith)));
    kept = pair_length l p (v % 256) (v / 256 % 256);
  }

-- a word is put together again from its bytes
pub word_bytes : (w : ℕ) → w < 2 ^ 32 → w % 256 + 256 * (w / 256 % 256) + 65536 * (w / 65536 % 256) + 16777216 * (w / 16777216 % 256) ≡ w
word_bytes w small =
    let first : 256 * (w / 256) + w % 256 ≡ w = omega arith in
    let second : 256 * (w / 65536) + w / 256 % 256 ≡ w / 256 = omega (arith, div-div-eq-div-mul w 256 256) in
    let third : 256 * (w / 16777216) + w / 65536 % 256 ≡ w / 65536 = omega (arith, div-div-eq-div-mul w 65536 256) in
    let last : w / 16777216 % 256 ≡ w / 16777216 = mod-eq_of_lt (omega arith) in
    sums w (w / 256) (w / 65536) (w / 16777216) (w % 256) (w / 256 % 256) (w / 65536 % 256) (w / 16777216 % 256) first second third last
  where
    sums : (w x y z a b c d : ℕ) → 256 * x + a ≡ w → 256 * y + b ≡ x → 256 * z + c ≡ y → d ≡ z → a + 256 * b + 65536 * c + 16777216 * d ≡ w
    sums w x y z a b c d e e' e'' e''' = omega arith

-- three bytes of a buffer from place a on, and the others
module _ (l : List ℕ) (a x y z : ℕ) where
  abbrev one : List ℕ
  one = set l a x

  abbrev two : List ℕ
  two = set one (a + 1) y

  abbrev pub with_three : List ℕ
  with_three = set (set (set l a x) (a + 1) y) (a + 2) z

  pub three_other : (k : ℕ) → (k ≡ a → ⊥) → (k ≡ a + 1 → ⊥) → (k ≡ a + 2 → ⊥) → get_or with_three k 0 ≡ get_or l k 0
  three_other k n0 n1 n2 = get_or-set_other two (a + 2) k z 0 n2 ∙ get_or-set_other one (a + 1) k y 0 n1 ∙ get_or-set_other l a k x 0 n0

  three_keeps : Keeps l with_three a (a + 3)
  three_keeps k h =
      let none = outside k a (a + 3) in
      three_other k (none a h (omega arith) (omega arith)) (none (a + 1) h (omega arith) (omega arith)) (none (a + 2) h (omega arith) (omega arith))

  pub three_length : length with_three ≡ length l
  three_length = length-set two (a + 2) z ∙ length-set one (a + 1) y ∙ length-set l a x

  pub three_stored : a + 2 < length l → (get_or with_three a 0 ≡ x) × (get_or with_three (a + 1) 0 ≡ y) × (get_or with_three (a + 2) 0 ≡ z)
  three_stored inside = (
    get_or-set_other two (a + 2) a z 0 (λ e. omega arith) ∙ get_or-set_other one (a + 1) a y 0 (λ e. omega arith) ∙ get_or-set_same l a x 0 (omega arith),
    get_or-set_other two (a + 2) (a + 1) z 0 (λ e. omega arith) ∙ get_or-set_same one (a + 1) y 0 (omega (arith, length-set l a x)),
    get_or-set_same two (a + 2) z 0 (omega (arith, length-set l a x, length-set one (a + 1) y)),
  )

-- a set of three bytes is stored
module _ (l : List ℕ) (i w : ℕ) where
  abbrev pub with_narrow : List ℕ
  with_narrow = with_three l (3 * i) (w % 256) (w / 256 % 256) (w / 65536 % 256)

  pub narrow_stored : 3 * i + 2 < length l → w < 2 ^ 24 → Stored narrow_in l with_narrow i w
  narrow_stored inside small = record {
    stored = omega (arith, three_stored l (3 * i) (w % 256) (w / 256 % 256) (w / 65536 % 256) inside, word_bytes w (omega arith));
    others = narrow_kept i l with_narrow (three_keeps l (3 * i) (w % 256) (w / 256 % 256) (w / 65536 % 256));
    kept = three_length l (3 * i) (w % 256) (w / 256 % 256) (w / 65536 % 256);
  }

-- and one of four
module _ (l : List ℕ) (i w : ℕ) where
  abbrev three : List ℕ
  three = with_three l (4 * i) (w % 256) (w / 256 % 256) (w / 65536 % 256)

  abbrev pub with_word : List ℕ
  with_word = set (with_three l (4 * i) (w % 256) (w / 256 % 256) (w / 65536 % 256)) (4 * i + 3) (w / 16777216 % 256)

  -- a byte before the last one, or of another word
  word_front : (k : ℕ) → (k ≡ 4 * i + 3 → ⊥) → get_or with_word k 0 ≡ get_or three k 0
  word_front k n3 = get_or-set_other three (4 * i + 3) k _ 0 n3

  word_keeps : Keeps l with_word (4 * i) (4 * i + 4)
  word_keeps k h =
      word_front k (outside k (4 * i) (4 * i + 4) (4 * i + 3) h (omega arith) (omega arith))
      ∙ three_keeps l (4 * i) (w % 256) (w / 256 % 256) (w / 65536 % 256) k (⊎_elim (λ l. inl l) (λ l. inr (omega arith)) h)

  three_kept : length three ≡ length l
  three_kept = three_length l (4 * i) (w % 256) (w / 256 % 256) (w / 65536 % 256)

  word_length : length with_word ≡ length l
  word_length = length-set three (4 * i + 3) _ ∙ three_kept

  pub word_stored : 4 * i + 3 < length l → w < 2 ^ 32 → Stored word_in l with_word i w
  word_stored inside small = record {
    stored =
        let front = three_stored l (4 * i) (w % 256) (w / 256 % 256) (w / 65536 % 256) (omega arith) in
        let b0 : get_or with_word (4 * i) 0 ≡ w % 256 = word_front (4 * i) (λ e. omega arith) ∙ front.0 in
        let b1 : get_or with_word (4 * i + 1) 0 ≡ w / 256 % 256 = word_front (4 * i + 1) (λ e. omega arith) ∙ front.1 in
        let b2 : get_or with_word (4 * i + 2) 0 ≡ w / 65536 % 256 = word_front (4 * i + 2) (λ e. omega arith) ∙ front.2 in
        let b3 : get_or with_word (4 * i + 3) 0 ≡ w / 16777216 % 256 = get_or-set_same three (4 * i + 3) _ 0 (omega (arith, three_kept)) in
        omega (arith, b0, b1, b2, b3, word_bytes w small);
    others = word_kept i l with_word word_keeps;
    kept = word_length;
  }

-- a word with a bit besides that it does not have
module _ (w s : ℕ) (free : Bit w s → ⊥) where
  bit_below : (x : ℕ) → x < s → (w + 2 ^ s) / 2 ^ x % 2 ≡ w / 2 ^ x % 2
  bit_below x l =
      let split : s ≡ suc (s - suc x) + x = omega arith in
      let power : 2 ^ s ≡ 2 ^ suc (s - suc x) * 2 ^ x = ap (λ (n : ℕ). 2 ^ n) split ∙ pow-add 2 (suc (s - suc x)) x in
      let quotient : (w + 2 ^ s) / 2 ^ x ≡ w / 2 ^ x + 2 ^ suc (s - suc x) = ap (λ (n : ℕ). (w + n) / 2 ^ x) power ∙ add-mul-div_right w (2 ^ suc (s - suc x)) (pow_pos x) in
      omega (arith, quotient, pow-succ' 2 (s - suc x))

  -- the word from bit s on is one more, and even before
  bit_itself : (w + 2 ^ s) / 2 ^ s ≡ w / 2 ^ s + 1
  bit_itself =
      let one : 2 ^ s ≡ 1 * 2 ^ s = omega arith in
      ap (λ (n : ℕ). (w + n) / 2 ^ s) one ∙ add-mul-div_right w 1 (pow_pos s)

  bit_beyond : (x : ℕ) → s < x → (w + 2 ^ s) / 2 ^ x ≡ w / 2 ^ x
  bit_beyond x l =
      let split : s + 1 + (x - (s + 1)) ≡ x = omega arith in
      let above : (v : ℕ) → v / 2 ^ x ≡ v / 2 ^ s / 2 ^ 1 / 2 ^ (x - (s + 1)) =
      λ v. sym (ap (λ (n : ℕ). n / 2 ^ (x - (s + 1))) (shr-shr v s 1) ∙ shr-shr v (s + 1) (x - (s + 1)) ∙ ap (λ (n : ℕ). v / 2 ^ n) split) in
      let half : (w + 2 ^ s) / 2 ^ s / 2 ^ 1 ≡ w / 2 ^ s / 2 ^ 1 = omega (arith, bit_itself) in
      above (w + 2 ^ s) ∙ ap (λ (n : ℕ). n / 2 ^ (x - (s + 1))) half ∙ sym (above w)

  pub bit_besides : (x : ℕ) → Bit (w + 2 ^ s) x ↔ (Bit w x ⊎ (x ≡ s))
  bit_besides x = go (lt? x s) (eq? x s)
    where
      go : Dec (x < s) → Dec (x ≡ s) → Bit (w + 2 ^ s) x ↔ (Bit w x ⊎ (x ≡ s))
      go (yes l) _ = (λ one. inl (sym (bit_below x l) ∙ one), ⊎_elim (λ one. bit_below x l ∙ one) (λ e. absurd (omega arith)))
      go (no _) (yes e) = (λ _. inr e, λ _. subst (λ (n : ℕ). Bit (w + 2 ^ s) n) (sym e) (omega (arith, bit_itself)))
      go (no nl) (no ne) =
          let same = ap (λ (n : ℕ). n % 2) (bit_beyond x (omega arith)) in
          (λ one. inl (sym same ∙ one), ⊎_elim (λ one. same ∙ one) (λ e. absurd (ne e)))

-- a part of a buffer that was stored anew, n bytes from place a on: the bytes before and after it stay
put_keeps : (l ys : List ℕ) (a n : ℕ) → a + n ≤ length l → length ys ≡ n → Keeps l (put_mid a n l ys) a (a + n)
put_keeps l ys a n inside long k = ⊎_elim (λ h. below h) (λ h. beyond h)
  where
    below : k < a → get_or (put_mid a n l ys) k 0 ≡ get_or l k 0
    below h = grind (arith, common_steps)

    beyond : a + n ≤ k → get_or (put_mid a n l ys) k 0 ≡ get_or l k 0
    beyond h = grind (arith, common_steps)

-- where the part is one set, the others are as before
pub narrow_others : (l ys : List ℕ) (i n : ℕ) → 3 * i + n ≤ length l → length ys ≡ n → n ≡ 3 → (k : ℕ) → (k ≡ i → ⊥) → narrow_in (put_mid (3 * i) n l ys) k ≡ narrow_in l k
narrow_others l ys i n inside long three = narrow_kept i l (put_mid (3 * i) n l ys) (λ k h. put_keeps l ys (3 * i) n inside long k (⊎_elim (λ l. inl l) (λ l. inr (omega arith)) h))

pub word_others : (l ys : List ℕ) (i n : ℕ) → 4 * i + n ≤ length l → length ys ≡ n → n ≡ 4 → (k : ℕ) → (k ≡ i → ⊥) → word_in (put_mid (4 * i) n l ys) k ≡ word_in l k
word_others l ys i n inside long four = word_kept i l (put_mid (4 * i) n l ys) (λ k h. put_keeps l ys (4 * i) n inside long k (⊎_elim (λ l. inl l) (λ l. inr (omega arith)) h))

-- a word whose bits are those of w and s is as short as both
pub bits_short : {w s r : ℕ} → ((x : ℕ) → Bit r x ↔ (Bit w x ⊎ (x ≡ s))) → (n : ℕ) → s < n → w < 2 ^ n → r < 2 ^ n
bits_short {w} {s} {r} bits n l small = go (eq? (r / 2 ^ n) 0)
  where
    go : Dec (r / 2 ^ n ≡ 0) → r < 2 ^ n
    go (yes none) = omega (arith, (div-lt_iff_lt-mul {x = r} {y = 1} (pow_pos n)).0 (omega arith))
    go (no some) =
        let (x, above, one) = bit_above n r some in
        absurd (⊎_elim (λ h. no_bit_above n w (div-eq_of_lt small) (x, above, h)) (λ e. omega arith) ((bits x).0 one))
