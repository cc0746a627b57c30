-- Signed numbers as the difference of two natural ones: equal, added and compared as the natural ones are, and held in 32 bits where these
-- are small. Assumes nothing.
use mathlib.Core.Path.{◌≡◌, sym, ◌∙◌, ap, ap₂, subst}
use Prim.Native.Nat.{ℕ, suc, ◌+◌, ◌-◌, ◌≤◌, ◌<◌}
use native.Mathlib.Decide.{dec_lt}
use native.Mathlib.Omega.{arith}
use lib.Dec.{ltb}
use lib.IntN.{ℤ, pos, negsuc, sub_ℕ, ◌+ℤ◌}
use lib.Signed.{lt_z}
use borrow.Author.Tests.{lt-ltb, le-ltb}
use mir.Syntax.{w32}
use mir.Val.{SFits, to_z, of_z}
use mir.ValLaws.{to_z_pos, to_z-of_z}
use Rattle.block.specs.Layout.{taken, given, signed}

-- a difference by which of the two is larger
sub_below : {a b : ℕ} → a < b → sub_ℕ a b ≡ negsuc (b - suc a)
sub_below {a} {b} l = rw (lt-ltb a b l)

sub_above : {a b : ℕ} → b ≤ a → sub_ℕ a b ≡ pos (a - b)
sub_above {a} {b} l = rw (le-ltb a b l)

pub sub_same : (a b c d : ℕ) → a + d ≡ c + b → sub_ℕ a b ≡ sub_ℕ c d
sub_same a b c d e = go (dec_lt a b)
  where
    go : Dec (a < b) → sub_ℕ a b ≡ sub_ℕ c d
    go (yes l) = let l' : c < d = omega arith in sub_below l ∙ ap negsuc (omega arith) ∙ sym (sub_below l')
    go (no g) =
        let l : b ≤ a = omega arith in
        let l' : d ≤ c = omega arith in
        sub_above l ∙ ap pos (omega arith) ∙ sym (sub_above l')

pub sub_add : (a b c d : ℕ) → sub_ℕ a b +ℤ sub_ℕ c d ≡ sub_ℕ (a + c) (b + d)
sub_add a b c d = go (dec_lt a b) (dec_lt c d)
  where
    go : Dec (a < b) → Dec (c < d) → sub_ℕ a b +ℤ sub_ℕ c d ≡ sub_ℕ (a + c) (b + d)
    go (yes l) (yes l') =
        let below : a + c < b + d = omega arith in
        ap₂ ◌+ℤ◌ (sub_below l) (sub_below l') ∙ ap negsuc (omega arith) ∙ sym (sub_below below)
    go (yes l) (no g) =
        let above : d ≤ c = omega arith in
        ap₂ ◌+ℤ◌ (sub_below l) (sub_above above) ∙ sub_same (c - d) (suc (b - suc a)) (a + c) (b + d) (omega arith)
    go (no g) (yes l) =
        let above : b ≤ a = omega arith in
        ap₂ ◌+ℤ◌ (sub_above above) (sub_below l) ∙ sub_same (a - b) (suc (d - suc c)) (a + c) (b + d) (omega arith)
    go (no g) (no g') =
        let above : b ≤ a = omega arith in
        let above' : d ≤ c = omega arith in
        let both : b + d ≤ a + c = omega arith in
        ap₂ ◌+ℤ◌ (sub_above above) (sub_above above') ∙ ap pos (omega arith) ∙ sym (sub_above both)

-- held in 32 bits
pub sub_fits : (a b : ℕ) → a < 1000 → b < 1000 → SFits w32 (sub_ℕ a b)
sub_fits a b la lb = go (dec_lt a b)
  where
    go : Dec (a < b) → SFits w32 (sub_ℕ a b)
    go (yes l) = subst (SFits w32) (sym (sub_below l)) (record { sfits = omega arith })
    go (no g) = let above : b ≤ a = omega arith in subst (SFits w32) (sym (sub_above above)) (record { sfits = omega arith })

pub sub_held : (a b : ℕ) → a < 1000 → b < 1000 → to_z w32 (of_z w32 (sub_ℕ a b)) ≡ sub_ℕ a b
sub_held a b la lb = to_z-of_z w32 (sub_ℕ a b) (sub_fits a b la lb)

pub small_held : (n : ℕ) → n < 1000 → to_z w32 n ≡ sub_ℕ n 0
small_held n l = let above : 0 ≤ n = omega arith in to_z_pos w32 n (omega arith) ∙ ap pos (omega arith) ∙ sym (sub_above above)

-- of a byte
pub taken_given : (c : ℕ) → (taken c ≤ c) × (given c ≤ 15)
taken_given c = go (dec_lt c 241)
  where
    go : Dec (c < 241) → (taken c ≤ c) × (given c ≤ 15)
    go (yes l) = rw (lt-ltb c 241 l) (omega arith, omega arith)
    go (no g) = let m : 241 ≤ c = omega arith in rw (le-ltb c 241 m) (omega arith, omega arith)

pub signed_held : (c : ℕ) → c < 256 → to_z w32 (of_z w32 (signed c)) ≡ signed c
signed_held c l = sub_held (taken c) (given c) (omega (arith, taken_given c)) (omega (arith, taken_given c))

-- less a number that the code names
pub less_held : (n k : ℕ) → n < 1000 → to_z w32 n +ℤ negsuc k ≡ sub_ℕ n (suc k)
less_held n k l = ap (λ (z : ℤ). z +ℤ negsuc k) (to_z_pos w32 n (omega arith))

-- compared
pub sub_less : (a b c d : ℕ) → lt_z (sub_ℕ a b) (sub_ℕ c d) ≡ ltb (a + d) (c + b)
sub_less a b c d = go (dec_lt a b) (dec_lt c d)
  where
    by : (x y z w : ℕ) → ((x < y) → z < w) → ((y ≤ x) → w ≤ z) → ltb x y ≡ ltb z w
    by x y z w less more = test (dec_lt x y)
      where
        test : Dec (x < y) → ltb x y ≡ ltb z w
        test (yes l) = lt-ltb x y l ∙ sym (lt-ltb z w (less l))
        test (no g) = let m : y ≤ x = omega arith in le-ltb x y m ∙ sym (le-ltb z w (more m))

    go : Dec (a < b) → Dec (c < d) → lt_z (sub_ℕ a b) (sub_ℕ c d) ≡ ltb (a + d) (c + b)
    go (yes l) (yes l') = ap₂ lt_z (sub_below l) (sub_below l') ∙ by (d - suc c) (b - suc a) (a + d) (c + b) (λ h. omega arith) (λ h. omega arith)
    go (yes l) (no g) =
        let above : d ≤ c = omega arith in
        ap₂ lt_z (sub_below l) (sub_above above) ∙ sym (lt-ltb (a + d) (c + b) (omega arith))
    go (no g) (yes l) =
        let above : b ≤ a = omega arith in
        ap₂ lt_z (sub_above above) (sub_below l) ∙ sym (le-ltb (a + d) (c + b) (omega arith))
    go (no g) (no g') =
        let above : b ≤ a = omega arith in
        let above' : d ≤ c = omega arith in
        ap₂ lt_z (sub_above above) (sub_above above') ∙ by (a - b) (c - d) (a + d) (c + b) (λ h. omega arith) (λ h. omega arith)
