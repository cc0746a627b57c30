-- The documents' numbers for what is turned down (01, and 02's requests after 11), which of several is given, and what a call leaves in lent buffers.
use Rattle.std.specs.Prelude.{Result, Ok, Err, List, [], ◌∷◌, ◌⊎◌, ◌≡◌, ℕ, length, replicate}
use Rattle.block.specs.declared.refusal.Refusal.{Refusal}
use Rattle.block.specs.declared.refusal.Refusal.TheVariants.{Length, Sizes, State, Next, Row, Unused, Form, RowChoice, Position, WrongSide, Move, Reply, Charge}

abbrev pub number_of : Refusal → ℕ
number_of Length = 1
number_of Sizes = 2
number_of State = 3
number_of Next = 4
number_of Row = 5
number_of Unused = 6
number_of Form = 7
number_of RowChoice = 8
number_of Position = 9
number_of WrongSide = 10
number_of Move = 11
number_of Reply = 12
number_of Charge = 13

-- what a call answers: a value, or what it turns down
abbrev pub Answer : Type 0
Answer = Result ℕ Refusal

-- a refusal, with the condition under which it is given
infix 68 ◌when◌
pub data Rule : Type 1 where
  ◌when◌ : Refusal → Type 0 → Rule

-- the first rule whose condition holds gives the answer; where none does, it is as Rest says
abbrev pub Tried : List Rule → (Answer → Type 0) → Answer → Type 0
Tried [] Rest a = Rest a
Tried ((r when condition) ∷ rules) Rest a = (condition × (a ≡ Err r)) ⊎ ((condition → ⊥) × Tried rules Rest a)

pub record First (rules : List Rule) (Rest : Answer → Type 0) (a : Answer) : Type 0 where
  pub tried : Tried rules Rest a

-- a value that is right
pub data Gives (Right : ℕ → Type 0) : Answer → Type 0 where
  value : {n : ℕ} → Right n → Gives Right (Ok n)

-- the first refusal of the list whose condition holds, or where none holds a value that is right
abbrev pub Answers : List Rule → (ℕ → Type 0) → Answer → Type 0
Answers rules Right = First rules (Gives Right)

-- a call that gives no value answers 0
abbrev pub NoValue : ℕ → Type 0
NoValue n = n ≡ 0

-- the list has a rule for this refusal whose condition holds
abbrev pub Meets : List Rule → Refusal → Type 0
Meets [] r = ⊥
Meets ((q when condition) ∷ rules) r = ((r ≡ q) × condition) ⊎ Meets rules r

-- a buffer that is filled, t before a call and u after it: a refusal leaves it as it was
abbrev pub Kept : List ℕ → List ℕ → Answer → Type 0
Kept t u (Ok n) = Unit {0}
Kept t u (Err r) = u ≡ t

-- working room, t before a call and u after it: 1 leaves it as it was, and any other answer leaves zeros
pub record RoomAfter (t u : List ℕ) (a : Answer) : Type 0 where
  pub left : a ≡ Err Length → u ≡ t
  pub cleared : (a ≡ Err Length → ⊥) → u ≡ replicate (length t) 0
