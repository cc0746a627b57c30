-- What the listing call promises of its answer and of the lent buffers (document 01, "The job Catch" and "Numbers for what is turned down").
use Rattle.std.specs.Prelude.{List, [], ◌∷◌, ◌++◌, ◌≡◌, ℕ, ◌-◌, ◌≤◌, length, replicate}
use Rattle.block.specs.Refusal.{Rule, ◌when◌, First, Gives, Kept, RoomAfter}
use Rattle.block.specs.Layout.{Block}
use Rattle.block.specs.declared.refusal.Refusal.TheVariants.{Length}
use Rattle.text.specs.Format.{Outcome, accepted, refused}
use Rattle.text.specs.Text.{text_bytes, blank, read_call}
use Rattle.turns.specs.Sizes.{room_bytes, moves_bytes}
use Rattle.block.specs.Refusal.{Answer}
use Rattle.std.specs.Prelude.{Err}
use Rattle.report.specs.Listing.{Listed}

-- the listing is at most as long as a text, so its buffer has the length of one
abbrev pub listing_bytes : ℕ
listing_bytes = text_bytes

-- the buffer of a `refused,` line
abbrev pub refused_bytes : ℕ
refused_bytes = 17

-- the bytes, n of them, stand in the front of a buffer of this size, and zeros after them
pub record Filled (bytes buffer : List ℕ) (size n : ℕ) : Type 0 where
  pub count : n ≡ length bytes
  pub fits : n ≤ size
  pub whole : buffer ≡ bytes ++ replicate (size - n) 0

-- the listing of a job in its buffer, n bytes long
abbrev pub ListingIn : Block → List ℕ → ℕ → Type 0
ListingIn b out n = (bytes : List ℕ) × (Listed b bytes × Filled bytes out listing_bytes n)

-- lent buffers of another length
abbrev pub list_rules : List ℕ → List ℕ → List ℕ → List Rule
list_rules out ranks moves =
    Length when (length out ≡ listing_bytes → ⊥)
    ∷ Length when (length ranks ≡ room_bytes → ⊥)
    ∷ Length when (length moves ≡ moves_bytes → ⊥)
    ∷ []

-- then what reading the text comes to: the listing and its length, or the refusal, 1 too for a text that is too long
abbrev pub ListingOf : Outcome → List ℕ → Answer → Type 0
ListingOf (accepted b) out = Gives (ListingIn b out)
ListingOf (refused r rest) out = λ a. a ≡ Err r

-- listing, ranks and moves, before the call and after it; ranks and moves are working room
pub record ListingCall (text out ranks moves out' ranks' moves' : List ℕ) (a : Answer) : Type 0 where
  pub answer : First (list_rules out ranks moves) (ListingOf (read_call text blank) out') a
  pub kept : Kept out out' a
  pub ranks_after : RoomAfter ranks ranks' a
  pub moves_after : RoomAfter moves moves' a
