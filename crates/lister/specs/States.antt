-- What the state lister and its second call promise (document 01, "When a row is true" and "Numbers for what is turned down").
use Rattle.std.specs.Prelude.{List, ◌∷◌, ◌≡◌, ℕ, ◌<◌, length, take}
use Rattle.std.specs.Int.Count.{ones}
use Rattle.block.specs.Layout as L
use Rattle.block.specs.Layout.{Block}
use Rattle.block.specs.Refusal.{Rule, ◌when◌, Answers, NoValue, Kept, RoomAfter}
use Rattle.block.specs.declared.refusal.Refusal.TheVariants.{Length}
use Rattle.block.specs.Refusal.{Answer}
use Rattle.std.specs.Prelude.{Ok, Err}
use Rattle.game.specs.Model.{RowTrue, RowSet}
use Rattle.turns.specs.Sizes.{room_bytes}
use Rattle.turns.specs.Listed.{states_bytes, Lists}
use Rattle.admission.specs.Admission.{set_rules}

-- a list or a room that has not its length, then the block and the row: every kind of row has states
abbrev pub states_rules : Block → ℕ → ℕ → ℕ → List Rule
states_rules b i list room = Length when (list ≡ states_bytes → ⊥) ∷ Length when (room ≡ room_bytes → ⊥) ∷ set_rules b i

-- the n states in which row i is true stand in the list's front, and n is the count of its set
pub record StatesIn (b : Block) (i : ℕ) (list : List ℕ) (n : ℕ) : Type 0 where
  pub lists : Lists (λ s. (s < L.states b) × RowTrue b i s) list n
  pub count : (w : ℕ) × (RowSet b i w × (n ≡ ones w))

-- how much of the list an answer hands back
abbrev pub front_of : Answer → ℕ
front_of (Ok n) = n
front_of (Err r) = 0

-- list and room, before the call and after it
pub record StatesCall (b : Block) (i : ℕ) (list room list' room' : List ℕ) (a : Answer) : Type 0 where
  pub answer : Answers (states_rules b i (length list) (length room)) (StatesIn b i list') a
  pub kept : Kept list list' a
  pub room_after : RoomAfter room room' a

-- the part that is handed back is the front of the list that the call fills, list'
pub record PartCall (b : Block) (i : ℕ) (list room part room' : List ℕ) : Type 0 where
  pub list' : List ℕ
  pub filled : Answer
  pub call : StatesCall b i list room list' room' filled
  pub front : part ≡ take (front_of filled) list'

-- the second call, on the same input: the same refusal, and nothing changes but the room
pub record RefusalCall (b : Block) (i : ℕ) (list room room' : List ℕ) (a : Answer) : Type 0 where
  pub answer : Answers (states_rules b i (length list) (length room)) NoValue a
  pub room_after : RoomAfter room room' a
