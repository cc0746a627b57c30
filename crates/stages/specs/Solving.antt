-- The ranks of an until or an always row, as they are first, before each stage, and as they are found.
use Rattle.std.specs.Prelude.{Bool, true, false, List, ◌↔◌, ◌≡◌, ℕ, suc, ◌+◌, ◌≤◌, ◌<◌, length}
use Rattle.block.specs.Decide.{Bit}
use Rattle.block.specs.Layout as L
use Rattle.block.specs.Layout.{Block}
use Rattle.game.specs.Model.{arena_of}
use Rattle.game.specs.Position.{Arena, Position, number, positions}
use Rattle.game.specs.Table.{never}
use Rattle.game.specs.Inner.Facts.{CanForce, CanAnswer, Ranked}
use Rattle.turns.specs.Buffers.{rank_in}
use Rattle.turns.specs.Sizes.{max_positions}
use Rattle.ways.specs.declared.rows.Row.{Row}
use Rattle.boards.specs.Boards.{to_in, won_in}
use Rattle.stages.specs.Stages.{hold, due_at, marked_at, Prepared, rank_of, To, Waits, Held}

-- until: the coalition attacks. Always: the opponents do
abbrev pub Attacks : Arena → Bool → Position → (Position → Type 0) → Type 0
Attacks G true = CanForce G
Attacks G false = CanAnswer G

abbrev pub Defends : Arena → Bool → Position → (Position → Type 0) → Type 0
Defends G true = CanAnswer G
Defends G false = CanForce G

-- words that stand for no rank become never
pub record Finished (positions : ℕ) (l l' : List ℕ) : Type 0 where
  pub ranked : (p : ℕ) → p < positions → rank_in l p < hold → rank_in l' p ≡ rank_in l p
  pub unranked : (p : ℕ) → p < positions → hold ≤ rank_in l p → rank_in l' p ≡ never
  pub outside : (p : ℕ) → positions ≤ p → rank_in l' p ≡ rank_in l p
  pub long : length l' ≡ length l

module _ (b : Block) (row : Row) (ways board : List ℕ) (most : Bool) (ranks : List ℕ) where
  -- the attack comes below m in one step, and the defence keeps it from below m
  abbrev pub Attacked : Bool → ℕ → ℕ → ℕ → Type 0
  Attacked true m s x = (k : ℕ) × (y : ℕ) × To b row ways board s x k y × ((q : ℕ) → Bit (to_in board s k) q → rank_of row ranks q y < m)
  Attacked false m s x = (k y : ℕ) → To b row ways board s x k y → (q : ℕ) × Bit (to_in board s k) q × (rank_of row ranks q y < m)

  abbrev pub Defended : Bool → ℕ → ℕ → ℕ → Type 0
  Defended true m s x = (k y : ℕ) → To b row ways board s x k y → (q : ℕ) × Bit (to_in board s k) q × (m ≤ suc (rank_of row ranks q y))
  Defended false m s x = (k : ℕ) × (y : ℕ) × To b row ways board s x k y × ((q : ℕ) → Bit (to_in board s k) q → m ≤ suc (rank_of row ranks q y))

  -- what holds at an unranked position of a safe state before stage n
  abbrev pub Rests : Bool → ℕ → ℕ → ℕ → Type 0
  Rests true n s x = Defended true n s x
  Rests false n s x =
      (k : ℕ) × (rank_of row ranks s x ≡ hold + k)
      × (w : Waits b row ways board s x k) × ((q : ℕ) → Bit (to_in board s k) q → n ≤ suc (rank_of row ranks q w.place))

-- before stage n: all ranks below n are there and right
pub record Staged (b : Block) (row : Row) (ways board : List ℕ) (most : Bool) (safe goal n : ℕ) (ranks flags : List ℕ) : Type 0 where
  pub words : (y q : ℕ) → y < row.places → q < L.states b → Bit (won_in board y) q ↔ (rank_of row ranks q y < n)
  pub below : (s x : ℕ) → s < L.states b → x < row.places → rank_of row ranks s x < hold → rank_of row ranks s x < n
  pub due : (s x : ℕ) → s < L.states b → x < row.places → suc (rank_of row ranks s x) ≡ n → due_at flags x ≡ 1
  pub clear : (x : ℕ) → x < row.places → marked_at flags x ≡ 0
  pub reached : (s x : ℕ) → s < L.states b → x < row.places → rank_of row ranks s x ≡ 0 → Bit goal s
  pub goals : (s x : ℕ) → s < L.states b → x < row.places → Bit goal s → rank_of row ranks s x ≡ 0
  pub attacked : (s x : ℕ) → s < L.states b → x < row.places → 0 < rank_of row ranks s x → rank_of row ranks s x < hold
      → Bit safe s × Attacked b row ways board most ranks most (rank_of row ranks s x) s x
  pub defended : (s x : ℕ) → s < L.states b → x < row.places → 0 < rank_of row ranks s x → rank_of row ranks s x < hold
      → Defended b row ways board most ranks most (rank_of row ranks s x) s x
  pub held : Held b row ways board most ranks
  pub rests : (s x : ℕ) → s < L.states b → x < row.places → Bit safe s → hold ≤ rank_of row ranks s x → Rests b row ways board most ranks most n s x

-- all stages are done: nothing is due before stage n
pub record Found (b : Block) (row : Row) (ways : List ℕ) (most : Bool) (safe goal : ℕ) (ranks ranks' : List ℕ) : Type 0 where
  pub board : List ℕ
  pub flags : List ℕ
  pub stage : ℕ
  pub nexts : Prepared b row ways board
  pub staged : Staged b row ways board most safe goal stage ranks' flags
  pub none : (s x : ℕ) → s < L.states b → x < row.places → suc (rank_of row ranks' s x) ≡ stage → ⊥
  pub beyond : (p : ℕ) → positions (arena_of b row.index) ≤ p → rank_in ranks' p ≡ rank_in ranks p
  pub long : length ranks' ≡ length ranks

-- the ranks are right, and 0 past the last position
pub record Solved (G : Arena) (most : Bool) (safe goal : ℕ) (ranks : List ℕ) : Type 0 where
  pub ranked : Ranked G (Bit safe) (Bit goal) (λ p. rank_in ranks (number G p)) (Attacks G most) (Defends G most)
  pub outside : (n : ℕ) → positions G ≤ n → n < max_positions → rank_in ranks n ≡ 0
