-- Sets of rows in a buffer, row by row, and the ranks of a strategic row from the sets of lower rows.
use Rattle.std.specs.Prelude.{List, ◌≡◌, ℕ, ◌<◌, length}
use Rattle.block.specs.Decide.{Bit}
use Rattle.block.specs.Layout as L
use Rattle.block.specs.Layout.{Block}
use Rattle.turns.specs.Buffers.{word_in}
use Rattle.game.specs.Model.{RowSet}
use Rattle.solver.specs.Inner.Needs.{Names}
use Rattle.choice.specs.Tables.{RanksOf}

-- the rows below row i have their sets
abbrev pub LowerSets : Block → ℕ → List ℕ → Type 0
LowerSets b i sets = (j : ℕ) → j < i → RowSet b j (word_in sets j)

-- the rows that row i names have their sets
abbrev pub NamedSets : Block → ℕ → List ℕ → Type 0
NamedSets b i sets = (j : ℕ) → Names b i j → RowSet b j (word_in sets j)

-- the rows below row n that the word w has
abbrev pub InWord : ℕ → ℕ → ℕ → Type 0
InWord n w j = (j < n) × Bit w j

-- with a row the word has those that it names
abbrev pub Closed : Block → ℕ → ℕ → Type 0
Closed b n w = (i j : ℕ) → InWord n w i → Names b i j → Bit w j

-- the rows of a choice have their sets, and no other word changed
pub record RowsLabelled (b : Block) (Choice : ℕ → Type 0) (sets sets' : List ℕ) : Type 0 where
  pub each : (j : ℕ) → Choice j → RowSet b j (word_in sets' j)
  pub others : (j : ℕ) → (Choice j → ⊥) → word_in sets' j ≡ word_in sets j
  pub long : length sets' ≡ length sets

-- row i has its set, and no other word changed
pub record RowLabelled (b : Block) (i : ℕ) (sets sets' : List ℕ) : Type 0 where
  pub set : RowSet b i (word_in sets' i)
  pub others : (j : ℕ) → (j ≡ i → ⊥) → word_in sets' j ≡ word_in sets j
  pub long : length sets' ≡ length sets

-- left and right are the sets of the rows that row i names
pub record LowerTold (b : Block) (i left right : ℕ) : Type 0 where
  pub left_set : L.prop_kind < L.kind b i → RowSet b (L.left b i) left
  pub right_set : L.Binary (L.kind b i) → RowSet b (L.right b i) right

-- a row with the sets of the rows that it names, and its ranks
pub record Prepared (b : Block) (i left right : ℕ) (ranks : List ℕ) : Type 0 where
  pub left_set : L.prop_kind < L.kind b i → RowSet b (L.left b i) left
  pub right_set : L.Binary (L.kind b i) → RowSet b (L.right b i) right
  pub ranks_of : RanksOf b i left right ranks

-- the ranks of row i, where it is strategic, with the left row's set in the buffer
abbrev pub Ranked : Block → ℕ → List ℕ → List ℕ → Type 0
Ranked b i sets ranks = L.Strategic (L.kind b i) → (right : ℕ) × Prepared b i (word_in sets (L.left b i)) right ranks
