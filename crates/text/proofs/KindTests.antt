-- The tests of a row's kind (specs' binary and strategic) are those of the block (block's Binary and Strategic). Assumes nothing.
use mathlib.Core.Bool.{Bool, true, false}
use mathlib.Core.Logic.{inl, inr, ⊎_elim}
use mathlib.Core.Path.{◌≡◌, refl}
use Prim.Native.Nat.{ℕ, suc}
use native.Mathlib.Omega.{arith}
use lib.Dec.{T, eqb, leb, eqb→eq, leb→le}
use borrow.Author.Tests.{ne_eqb, le-leb, lt-leb}
use Rattle.block.specs.Inner.Tests.{Decides, holds, fails}
use Rattle.block.specs.Layout.{or_kind, next_kind, until_kind, Binary, Strategic}
use Rattle.text.specs.Job.{both, binary, strategic}
use Rattle.text.proofs.Decimals.{lt_or_ge}
use Rattle.text.proofs.Spellings.{either_case}

pub binary_is : {k : ℕ} {r : Bool} → Decides (Binary k) r → r ≡ binary k
binary_is (holds (inl e)) = rw e refl
binary_is (holds (inr e)) = rw e refl
binary_is {k} (fails h) = simp (ne_eqb k or_kind (λ e. h (inl e)), ne_eqb k until_kind (λ e. h (inr e)))

pub binary_true : (k : ℕ) → Binary k → T (binary k)
binary_true k (inl e) = rw e tt
binary_true k (inr e) = rw e tt

pub binary_case : (k : ℕ) → T (binary k) → Binary k
binary_case k h = ⊎_elim (λ x. inl (eqb→eq k or_kind x)) (λ x. inr (eqb→eq k until_kind x)) (either_case (eqb k or_kind) (eqb k until_kind) h)

pub strategic_is : {k : ℕ} {r : Bool} → Decides (Strategic k) r → r ≡ strategic k
strategic_is {k} (holds h) = simp (le-leb next_kind k h.0, le-leb k until_kind h.1)
strategic_is {k} (fails h) = ⊎_elim
    (λ l. simp (lt-leb next_kind k l))
    (λ l. ⊎_elim (λ g. absurd (h (l, omega arith))) (λ g. simp (le-leb next_kind k l, lt-leb k until_kind (omega arith))) (lt_or_ge k (suc until_kind)))
    (lt_or_ge k next_kind)

pub strategic_true : (k : ℕ) → Strategic k → T (strategic k)
strategic_true k h = rw (le-leb next_kind k h.0, le-leb k until_kind h.1) tt

pub strategic_case : (k : ℕ) → T (strategic k) → Strategic k
strategic_case k h = both_case (leb next_kind k) (leb k until_kind) h (λ x y. (leb→le next_kind k x, leb→le k until_kind y))
  where
    both_case : (x y : Bool) {P : Type 0} → T (both x y) → (T x → T y → P) → P
    both_case true y h f = f tt h
    both_case false y h f = absurd h
