-- What the worksheet call promises (document 02, R-1): the team's move at each of up to 64 positions of one row.
use Rattle.std.specs.Prelude.{List, ◌∷◌, ◌≡◌, ℕ, suc, ◌+◌, ◌*◌, ◌/◌, ◌%◌, ◌<◌, get_or, length, take, drop}
use Rattle.block.specs.Layout.{Block, max_resources}
use Rattle.block.specs.Refusal.{Rule, ◌when◌, number_of, Answers, NoValue, Kept, RoomAfter}
use Rattle.block.specs.declared.refusal.Refusal.TheVariants.{Length}
use Rattle.block.specs.Refusal.{Answer}
use Rattle.std.specs.Prelude.{Ok, Err}
use Rattle.turns.specs.Sizes.{room_bytes}
use Rattle.turns.specs.Buffers.{rank_in}
use Rattle.admission.specs.Admission.{row_rules}
use Rattle.lookup.specs.Calls.{MoveCall}

-- a position in the list: a byte for its state, and one for the stock of each resource
abbrev pub position_bytes : ℕ
position_bytes = suc max_resources

abbrev pub sheet_positions : ℕ
sheet_positions = 64

abbrev pub sheet_bytes : ℕ
sheet_bytes = sheet_positions * position_bytes

-- how many positions a list of n bytes has, and the bytes of its words, two for each position
abbrev pub sheet_count : ℕ → ℕ
sheet_count n = n / position_bytes

abbrev pub words_bytes : ℕ → ℕ
words_bytes n = 2 * sheet_count n

-- the state and the stocks of position k
abbrev pub state_in : List ℕ → ℕ → ℕ
state_in list k = get_or list (position_bytes * k) 0

abbrev pub stocks_in : List ℕ → ℕ → List ℕ
stocks_in list k = take max_resources (drop (suc (position_bytes * k)) list)

-- a list that is longer or has no whole number of positions, words that do not match its count, a room of another length; then the block and the
-- row
abbrev pub sheet_rules : Block → ℕ → ℕ → ℕ → ℕ → List Rule
sheet_rules b i list words room =
    Length when (sheet_bytes < list)
    ∷ Length when (list % position_bytes ≡ 0 → ⊥)
    ∷ Length when (words ≡ words_bytes list → ⊥)
    ∷ Length when (room ≡ room_bytes → ⊥)
    ∷ row_rules b i

-- an answer as a word: the move, or 256 plus the number of the refusal
abbrev pub word_for : Answer → ℕ
word_for (Ok m) = m
word_for (Err r) = 256 + number_of r

-- w is the word for what the team's move call answers at a position, lent the same room: its contract lets it answer so, and not otherwise
pub record Single (b : Block) (i s : ℕ) (stocks room room' : List ℕ) (w : ℕ) : Type 0 where
  pub single : Answer
  pub call : MoveCall b i s stocks room room' single
  pub only : (a : Answer) (room'' : List ℕ) → MoveCall b i s stocks room room'' a → a ≡ single
  pub word : w ≡ word_for single

-- the words hold it for each position of the list, and nothing else
pub record SheetIn (b : Block) (i : ℕ) (list words room room' : List ℕ) : Type 0 where
  pub each : (k : ℕ) → k < sheet_count (length list) → Single b i (state_in list k) (stocks_in list k) room room' (rank_in words k)
  pub long : length words ≡ words_bytes (length list)

-- words and room, before the call and after it
pub record SheetCall (b : Block) (i : ℕ) (list words room words' room' : List ℕ) (a : Answer) : Type 0 where
  pub answer : Answers (sheet_rules b i (length list) (length words) (length room)) (λ n. NoValue n × SheetIn b i list words' room room') a
  pub kept : Kept words words' a
  pub room_after : RoomAfter room room' a
