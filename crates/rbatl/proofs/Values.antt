-- A length, a count or the number of a joint action fits the number that a C caller is handed back. Assumes nothing.
use mathlib.Core.List.{List}
use mathlib.Core.Path.{◌≡◌, refl, ap, ◌∙◌}
use Prim.Native.Nat.{ℕ, zero, suc, ◌-◌, ◌≤◌, ◌<◌}
use native.Mathlib.Nat.{lt_of_le_of_lt, le_of_lt}
use native.Mathlib.Omega.{arith}
use lib.Dec.{lit<}
use lib.ListN.{length}
use borrow.Author.Tests.{lt-ltb}
use lib.IntN.{ℤ, pos, negsuc, neg_ℤ, ◌-ℤ◌}
use mir.Syntax.{w32}
use mir.Val.{SFits, to_z}
use mir.Facts.{to_z_pos}
use Rattle.block.specs.Refusal.{Rule, Answers}
use Rattle.block.specs.Refusal.{Answer}
use Rattle.std.specs.Prelude.{Ok, Err}
use Rattle.block.proofs.Refusals.{none_holds, right}
use Rattle.text.specs.Format.{Outcome, accepted, refused}
use Rattle.text.specs.Text.{text_bytes, read_text, answer_to, StopsAt, stop_rules}
use Rattle.game.proofs.Numbers.Decide.{lt?}
use Rattle.report.specs.Call.{listing_bytes, ListingCall}
use Rattle.report.proofs.Printing.{listing_fits}
use Rattle.rbatl.specs.Answer.{Small}

pub small : {n : ℕ} → n ≤ listing_bytes → SFits w32 (pos n)
small h = record { sfits = lt_of_le_of_lt h (lit< tt) }

-- a byte taken from 0
pub minus : (n : ℕ) → n < 256 → pos 0 -ℤ to_z w32 n ≡ neg_ℤ (pos n)
minus n h = ap (λ (z : ℤ). pos 0 -ℤ z) (to_z_pos w32 (lt_of_le_of_lt (le_of_lt h) (lit< tt))) ∙ negated n
  where
    negated : (n : ℕ) → pos 0 -ℤ pos n ≡ neg_ℤ (pos n)
    negated zero = refl
    negated (suc n) = let less : suc n - 1 ≡ n = omega arith in simp (lt-ltb 0 (suc n) (omega arith)) (ap negsuc less)

pub small_minus : (n : ℕ) → n < 256 → SFits w32 (neg_ℤ (pos n))
small_minus zero h = small (omega arith)
small_minus (suc n) h = let few : n ≤ 256 = omega arith in record { sfits = lt_of_le_of_lt few (lit< tt) }

pub small_answer : {rules : List Rule} {Right : ℕ → Type 0} {a : Answer} → Answers rules Right a → ((n : ℕ) → Right n → n ≤ listing_bytes) → Small a
small_answer {rules} {Right} {a} w least = go a w
  where
    go : (a : Answer) → Answers rules Right a → Small a
    go (Ok n) w = least n (right w)
    go (Err r) w = tt

pub small_read : (o : Outcome) → Small (answer_to o)
small_read (accepted b) = omega arith
small_read (refused r stop) = tt

-- a place of a text that is not too long
pub small_stop : (t : List ℕ) (a : Answer) → Answers (stop_rules t) (StopsAt t (read_text t)) a → Small a
small_stop t (Err r) w = tt
small_stop t (Ok n) w = let (short, _) = none_holds w in omega (arith, inside (read_text t) (right w), length_small short)
  where
    inside : (o : Outcome) → StopsAt t o n → n ≤ length t
    inside (accepted b) e = omega arith
    inside (refused r stop) (within, _) = within

    length_small : (text_bytes < length t → ⊥) → length t ≤ text_bytes
    length_small short = go (lt? text_bytes (length t))
      where
        go : Dec (text_bytes < length t) → length t ≤ text_bytes
        go (yes long) = absurd (short long)
        go (no _) = omega arith

pub small_listing : (text out ranks moves out' ranks' moves' : List ℕ) (a : Answer) → ListingCall text out ranks moves out' ranks' moves' a → Small a
small_listing text out ranks moves out' ranks' moves' (Ok n) call = listing_fits text out ranks moves out' ranks' moves' n call
small_listing text out ranks moves out' ranks' moves' (Err r) call = tt
