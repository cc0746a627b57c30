-- What the label and the table calls promise (document 01, "When a row is true" and "Numbers for what is turned down").
use Rattle.std.specs.Prelude.{List, ◌∷◌, ◌≡◌, ℕ, ◌≤◌, ◌<◌, get_or, length}
use Rattle.block.specs.Layout as L
use Rattle.block.specs.Layout.{Block}
use Rattle.block.specs.Refusal.{Rule, ◌when◌, Answers, NoValue, Kept, RoomAfter}
use Rattle.block.specs.Check.{block_rules}
use Rattle.block.specs.declared.refusal.Refusal.TheVariants.{Length}
use Rattle.block.specs.Refusal.{Answer}
use Rattle.game.specs.Position.{positions}
use Rattle.turns.specs.Sizes.{sets_bytes, room_bytes, moves_bytes}
use Rattle.turns.specs.Buffers.{rank_in, word_in, table_in}
use Rattle.game.specs.Model.{RowSet, WonSet, arena_of}
use Rattle.game.specs.Demand.{TableOf}
use Rattle.admission.specs.Admission.{row_rules}

-- sets or a room of another length, then the block
abbrev pub label_rules : Block → List ℕ → List ℕ → List Rule
label_rules b sets room = Length when (length sets ≡ sets_bytes → ⊥) ∷ Length when (length room ≡ room_bytes → ⊥) ∷ block_rules b

-- the set of each row, and 0 past the last. A strategic row's set is also what its coalition wins at full stock
pub record SetsIn (b : Block) (sets : List ℕ) : Type 0 where
  pub each : (i : ℕ) → i < L.rows b → RowSet b i (word_in sets i)
  pub won : (i : ℕ) → i < L.rows b → L.Strategic (L.kind b i) → WonSet b i (word_in sets i)
  pub past : (i : ℕ) → L.rows b ≤ i → i < L.max_rows → word_in sets i ≡ 0
  pub long : length sets ≡ sets_bytes

-- sets and room, before the label call and after it
pub record LabelCall (b : Block) (sets room sets' room' : List ℕ) (a : Answer) : Type 0 where
  pub answer : Answers (label_rules b sets room) (λ n. NoValue n × SetsIn b sets') a
  pub kept : Kept sets sets' a
  pub room_after : RoomAfter room room' a

-- ranks or moves of another length, then the block and the row
abbrev pub table_rules : Block → ℕ → List ℕ → List ℕ → List Rule
table_rules b i ranks moves = Length when (length ranks ≡ room_bytes → ⊥) ∷ Length when (length moves ≡ moves_bytes → ⊥) ∷ row_rules b i

-- rank and move of each position are those that plays give, and demand 3 holds at each; past the last position both are 0
pub record RowTable (b : Block) (i : ℕ) (ranks moves : List ℕ) : Type 0 where
  pub decided : TableOf b i (table_in ranks moves)
  pub past : (n : ℕ) → positions (arena_of b i) ≤ n → n < moves_bytes → (rank_in ranks n ≡ 0) × (get_or moves n 0 ≡ 0)
  pub long : (length ranks ≡ room_bytes) × (length moves ≡ moves_bytes)

-- the two buffers, before the table call and after it
pub record TableCall (b : Block) (i : ℕ) (ranks moves ranks' moves' : List ℕ) (a : Answer) : Type 0 where
  pub answer : Answers (table_rules b i ranks moves) (λ n. NoValue n × RowTable b i ranks' moves') a
  pub ranks_kept : Kept ranks ranks' a
  pub moves_kept : Kept moves moves' a
