-- The buffers after the listing call, by the outcome of reading the text. Assumes nothing.
use mathlib.Core.Bool.{Bool, true, false, cond, not}
use mathlib.Core.List.{List, ◌++◌}
use mathlib.Core.Path.{◌≡◌, refl, sym, ap, subst, ◌∙◌}
use Prim.Native.Nat.{ℕ, ◌-◌, ◌≤◌}
use native.Mathlib.Omega.{arith}
use lib.Dec.{ltb, eqb}
use lib.ListN.{length, take, replicate, length-append, length-replicate}
use lib.Seq.{length-take-le}
use Rattle.block.specs.Refusal.{First, value}
use Rattle.block.specs.Layout.{Block, block_bytes}
use Rattle.block.specs.Inner.Valid.{Valid}
use Rattle.block.specs.declared.refusal.Refusal.TheVariants.{Length}
use Rattle.block.proofs.Passing.{passing}
use Rattle.block.proofs.Refusals.{no_refusal, past, rest}
use Rattle.text.specs.Format.{Outcome, accepted, refused}
use Rattle.text.specs.Job.{either}
use Rattle.text.specs.Text.{text_bytes, blank, read_text, read_call, answer_to, block_after}
use Rattle.text.proofs.Formats.{never}
use Rattle.text.proofs.Accepts.{accepts}
use Rattle.turns.specs.Sizes.{room_bytes, moves_bytes}
use Rattle.block.specs.Refusal.{Answer}
use Rattle.std.specs.Prelude.{Ok, Err}
use Rattle.report.specs.Call.{listing_bytes, Filled, list_rules, ListingOf, ListingCall}

-- the answer and the block afterwards tell the outcome, but for where a refused text stops
abbrev pub Tells : Answer → Block → Outcome → Type 0
Tells (Ok n) c o = o ≡ accepted c
Tells (Err r) c o = (stop : List ℕ) × (o ≡ refused r stop)

pub outcome_told : (o : Outcome) (b c : Block) (a : Answer) → a ≡ answer_to o → c ≡ block_after b o → Tells a c o
outcome_told (accepted d) b c a answer after = subst (λ (a : Answer). Tells a c (accepted d)) (sym answer) (ap accepted (sym after))
outcome_told (refused r stop) b c a answer after = subst (λ (a : Answer). Tells a c (refused r stop)) (sym answer) (stop, refl)

-- a block that was read passes the check
pub read_valid : (t : List ℕ) (b c : Block) → read_call t b ≡ accepted c → Valid c
read_valid t b c = go (either (ltb text_bytes (length t)) (not (eqb (length b) block_bytes)))
  where
    go : (test : Bool) → cond test (refused Length t) (read_text t) ≡ accepted c → Valid c
    go true e = never Length c e
    go false e = passing ((accepts t c).0 e).0

-- zeros fill what is left of a buffer
pub filled : (bytes used out : List ℕ) (size n : ℕ) → take n used ≡ bytes → n ≤ size → length used ≡ size → out ≡ take n used ++ replicate (length used - n) 0 → Filled bytes out size n
filled bytes used out size n front fits long zeros = record {
  count = sym (length-take-le n used (omega arith)) ∙ ap length front;
  fits = fits;
  whole = zeros ∙ ap (λ (l : List ℕ). l ++ replicate (length used - n) 0) front ∙ ap (λ (k : ℕ). bytes ++ replicate (k - n) 0) long;
}

-- a filled buffer has its size
pub filled_long : (bytes buffer : List ℕ) (size n : ℕ) → Filled bytes buffer size n → length buffer ≡ size
filled_long bytes buffer size n f = ap length f.whole ∙ length-append bytes (replicate (size - n) 0) ∙ omega (arith, f.count, f.fits, length-replicate {A = ℕ} (size - n) 0)

-- with buffers of the right lengths, what reading comes to decides
pub called : (text out ranks moves : List ℕ) → length out ≡ listing_bytes → length ranks ≡ room_bytes → length moves ≡ moves_bytes
    → (o : Outcome) (out' : List ℕ) (a : Answer) → read_call text blank ≡ o → ListingOf o out' a → First (list_rules out ranks moves) (ListingOf (read_call text blank) out') a
called text out ranks moves out-long ranks_long moves_long o out' a is came =
    past (λ h. h out-long) (past (λ h. h ranks_long) (past (λ h. h moves_long) (record { tried = subst (λ (o : Outcome). ListingOf o out' a) (sym is) came })))

-- a length is at most that of the buffer
pub listing_fits : (text out ranks moves out' ranks' moves' : List ℕ) (n : ℕ) → ListingCall text out ranks moves out' ranks' moves' (Ok n) → n ≤ listing_bytes
listing_fits text out ranks moves out' ranks' moves' n call = go (read_call text blank) (rest call.answer)
  where
    go : (o : Outcome) → ListingOf o out' (Ok n) → n ≤ listing_bytes
    go (accepted b) (value (bytes, (listed, filled))) = filled.fits
    go (refused r stop) e = no_refusal e
