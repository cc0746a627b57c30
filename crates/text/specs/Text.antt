-- The text of a block, reading a text, and what the read call promises.
use Rattle.std.specs.Prelude.{cond, not, List, [], ◌∷◌, ◌⊎◌, ◌↔◌, ◌≡◌, ℕ, ◌≤◌, ◌<◌, ltb, eqb, length, drop, replicate}
use Rattle.block.specs.Layout.{Block, block_bytes}
use Rattle.block.specs.Refusal.{Rule, ◌when◌, Meets}
use Rattle.block.specs.Check.{block_rules, Passes}
use Rattle.block.specs.declared.refusal.Refusal.{Refusal}
use Rattle.block.specs.declared.refusal.Refusal.TheVariants.{Length, Form}
use Rattle.block.specs.Refusal.{Answer}
use Rattle.std.specs.Prelude.{Ok, Err}
use Rattle.text.specs.Format.{Outcome, accepted, refused, write, Spells, read, Stop, nowhere, stopped, stop}
use Rattle.text.specs.Numeral.{Found, found, missing, after}
use Rattle.text.specs.Job.{either, job_word, job}
use Rattle.text.specs.declared.sizes.Edition.{Edition}
use Rattle.text.specs.declared.sizes.Edition.TheVariants.{First, Second}
use Rattle.text.specs.Broken.{BrokenAt, SharedByte}

-- a text is at most this long, and the writer's buffer has this length
abbrev pub text_bytes : ℕ
text_bytes = 32768

-- the text of a block in an edition, and that which the writer gives
abbrev pub text_in : Edition → Block → List ℕ
text_in e b = write (job e) b

abbrev pub text_of : Block → List ℕ
text_of b = text_in Second b

unfoldable pub blank : Block
blank = replicate block_bytes 0

-- the edition of a text is told by its first word; what begins with neither is read as edition 1, and refused there
abbrev pub told_by : Found → Edition
told_by (found o rest) = Second
told_by missing = First

abbrev pub edition_of : List ℕ → Edition
edition_of t = told_by (after 0 (job_word Second) t missing)

-- reading a text
abbrev pub read_text : List ℕ → Outcome
read_text t = read (job (edition_of t)) blank t

-- the read call: 1 for a text that is too long or a block of another length, else what reading comes to
abbrev pub read_call : List ℕ → Block → Outcome
read_call t b = cond (either (ltb text_bytes (length t)) (not (eqb (length b) block_bytes))) (refused Length t) (read_text t)

-- the answer of a call that comes to an outcome, and the lent block afterwards
abbrev pub answer_to : Outcome → Answer
answer_to (accepted b) = Ok 0
answer_to (refused r rest) = Err r

abbrev pub block_after : Block → Outcome → Block
block_after b (accepted c) = c
block_after b (refused r rest) = b

-- the place n of a text at which reading stops: that of the field from which on it is refused, or its end where it is accepted
abbrev pub StopsAt : List ℕ → Outcome → ℕ → Type 0
StopsAt t (accepted b) n = n ≡ length t
StopsAt t (refused r rest) n = (n ≤ length t) × (rest ≡ drop n t)

-- a text that is too long is not looked at
abbrev pub stop_rules : List ℕ → List Rule
stop_rules t = Length when (text_bytes < length t) ∷ []

-- a text is accepted as a block exactly where the block passes and the text is one of its texts in an edition
abbrev pub Exact : List ℕ → Type 0
Exact t = (b : Block) → (read_text t ≡ accepted b) ↔ (Passes b × ((e : Edition) × Spells (job e) b t))

-- a text that is refused at a value gets the number of the condition that the block read so far, with that value's byte, meets at that very place;
-- one that is refused elsewhere gets the number of the form
abbrev pub NumberedAt : Stop → Outcome → Type 0
NumberedAt nowhere o = (r : Refusal) (rest : List ℕ) → o ≡ refused r rest → r ≡ Form
NumberedAt (stopped p b t) o = (r : Refusal) × (o ≡ refused r t) × ((BrokenAt b p r × Meets (block_rules b) r) ⊎ SharedByte b t p r)

abbrev pub Numbered : List ℕ → Type 0
Numbered t = NumberedAt (stop (job (edition_of t)) blank t) (read_text t)

-- reading what is written for a block that passes gives the same block
abbrev pub RoundTrip : Block → Type 0
RoundTrip b = read_text (text_of b) ≡ accepted b
