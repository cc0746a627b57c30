-- The number that a C caller is handed back: a value from 0, or minus the number of a refusal.
use Rattle.std.specs.Prelude.{List, ◌≡◌, ℕ, ◌≤◌, ℤ, pos, neg_ℤ}
use Rattle.block.specs.Layout.{Block}
use Rattle.block.specs.Refusal.{number_of, Answers}
use Rattle.block.specs.Check.{Verdict}
use Rattle.block.specs.Refusal.{Answer}
use Rattle.std.specs.Prelude.{Ok, Err}
use Rattle.text.specs.Text.{read_text, read_call, answer_to, StopsAt, stop_rules}
use Rattle.solver.specs.Calls.{LabelCall, TableCall}
use Rattle.lookup.specs.Calls.{MoveCall, ReplyCall}
use Rattle.sheets.specs.Worksheet.{SheetCall}
use Rattle.lister.specs.States.{StatesCall, RefusalCall}
use Rattle.rehearsal.specs.Rehearsal.{RehearsalCall}
use Rattle.allowances.specs.Allowances.{AllowancesCall}
use Rattle.report.specs.Call.{listing_bytes, ListingCall}
use Rattle.writer.specs.Call.{WriteCall}

-- a value, or minus the number of a refusal
abbrev pub answer_code : Answer → ℤ
answer_code (Ok n) = pos n
answer_code (Err r) = neg_ℤ (pos (number_of r))

-- a value is the number of a joint action, a count of states or of allowances, the length of a text or a listing, or a place of a text
abbrev pub Small : Answer → Type 0
Small (Ok n) = n ≤ listing_bytes
Small (Err r) = Unit {0}

-- what the check call answers: 0 where the block passes
abbrev pub CheckAnswer : Block → ℤ → Type 0
CheckAnswer b r = (a : Answer) × Verdict b a × (r ≡ answer_code a)

-- what the read call answers
abbrev pub read_answer : List ℕ → Block → ℤ
read_answer t b = answer_code (answer_to (read_call t b))

-- what the call answers that tells where reading stops
abbrev pub StopAnswer : List ℕ → ℤ → Type 0
StopAnswer t r = (a : Answer) × Answers (stop_rules t) (StopsAt t (read_text t)) a × (r ≡ answer_code a)

-- what the write call promises of its answer and of the text buffer, t before it and u after it
abbrev pub WriteAnswer : Block → List ℕ → List ℕ → ℤ → Type 0
WriteAnswer b t u r = (a : Answer) × WriteCall b t u a × (r ≡ answer_code a)

-- what the label call promises of its answer, the sets and the room, each before and after it
abbrev pub LabelAnswer : Block → List ℕ → List ℕ → List ℕ → List ℕ → ℤ → Type 0
LabelAnswer b sets room sets' room' r = (a : Answer) × LabelCall b sets room sets' room' a × (r ≡ answer_code a)

-- what the table call promises of its answer, the ranks and the moves, each before and after it
abbrev pub TableAnswer : Block → ℕ → List ℕ → List ℕ → List ℕ → List ℕ → ℤ → Type 0
TableAnswer b i ranks moves ranks' moves' r = (a : Answer) × TableCall b i ranks moves ranks' moves' a × (r ≡ answer_code a)

-- what the team's move and the reply calls promise of their answer and of the room, before and after
abbrev pub MoveAnswer : Block → ℕ → ℕ → List ℕ → List ℕ → List ℕ → ℤ → Type 0
MoveAnswer b i s stocks room room' r = (a : Answer) × MoveCall b i s stocks room room' a × (r ≡ answer_code a)

abbrev pub ReplyAnswer : Block → ℕ → ℕ → List ℕ → ℕ → List ℕ → List ℕ → ℤ → Type 0
ReplyAnswer b i s stocks m room room' r = (a : Answer) × ReplyCall b i s stocks m room room' a × (r ≡ answer_code a)

-- what the worksheet call promises of its answer, the words and the room, each before and after it
abbrev pub SheetAnswer : Block → ℕ → List ℕ → List ℕ → List ℕ → List ℕ → List ℕ → ℤ → Type 0
SheetAnswer b i list words room words' room' r = (a : Answer) × SheetCall b i list words room words' room' a × (r ≡ answer_code a)

-- what the rehearsal call promises of its answer, the report and the room, each before and after it
abbrev pub RehearsalAnswer : Block → ℕ → ℕ → List ℕ → List ℕ → List ℕ → List ℕ → List ℕ → ℤ → Type 0
RehearsalAnswer b i s script report room report' room' r = (a : Answer) × RehearsalCall b i s script report room report' room' a × (r ≡ answer_code a)

-- what the allowances call promises of its answer, the list and the room, each before and after it
abbrev pub AllowancesAnswer : Block → ℕ → ℕ → List ℕ → List ℕ → List ℕ → List ℕ → ℤ → Type 0
AllowancesAnswer b i s list room list' room' r = (a : Answer) × AllowancesCall b i s list room list' room' a × (r ≡ answer_code a)

-- what the lister promises of its answer, the list and the room, each before and after it
abbrev pub StatesAnswer : Block → ℕ → List ℕ → List ℕ → List ℕ → List ℕ → ℤ → Type 0
StatesAnswer b i list room list' room' r = (a : Answer) × StatesCall b i list room list' room' a × (r ≡ answer_code a)

-- what its second call promises of its answer and of the room, before and after it
abbrev pub RefusalAnswer : Block → ℕ → List ℕ → List ℕ → List ℕ → ℤ → Type 0
RefusalAnswer b i list room room' r = (a : Answer) × RefusalCall b i list room room' a × (r ≡ answer_code a)

-- what the listing call promises of its answer, the listing, the ranks and the moves, each before and after it
abbrev pub ListAnswer : List ℕ → List ℕ → List ℕ → List ℕ → List ℕ → List ℕ → List ℕ → ℤ → Type 0
ListAnswer text listing ranks moves listing' ranks' moves' r = (a : Answer) × ListingCall text listing ranks moves listing' ranks' moves' a × (r ≡ answer_code a)
