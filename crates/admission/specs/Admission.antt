-- What is turned down before anything is solved (document 01, "Numbers for what is turned down"): the block, then a row, a state and a position.
use Rattle.std.specs.Prelude.{List, [], ◌∷◌, ◌++◌, ℕ, ◌≤◌, ◌<◌, get_or}
use Rattle.block.specs.Decide.{Some}
use Rattle.block.specs.Layout as L
use Rattle.block.specs.Layout.{Block}
use Rattle.block.specs.Refusal.{Rule, ◌when◌}
use Rattle.block.specs.Check.{block_rules}
use Rattle.block.specs.declared.refusal.Refusal.TheVariants.{RowChoice, Position}
use Rattle.game.specs.Position.{places}
use Rattle.game.specs.Model.{bounds_of}

-- the block, then a row at or above F
abbrev pub set_rules : Block → ℕ → List Rule
set_rules b i = block_rules b ++ (RowChoice when (L.rows b ≤ i) ∷ [])

-- and where more than its set is wanted, a row of kind 0 to 2
abbrev pub row_rules : Block → ℕ → List Rule
row_rules b i = set_rules b i ++ (RowChoice when (L.kind b i < L.next_kind) ∷ [])

-- and where one of its states is wanted, a state at or above M
abbrev pub state_rules : Block → ℕ → ℕ → List Rule
state_rules b i q = row_rules b i ++ (Position when (L.states b ≤ q) ∷ [])

-- a state at or above M, a stock above its bound, or one that is not 0 where it must be
pub data NoPosition (b : Block) (i s : ℕ) (stocks : List ℕ) : Type 0 where
  no_state : L.states b ≤ s → NoPosition b i s stocks
  no_stock : Some L.max_resources (λ j. places (bounds_of b i j) ≤ get_or stocks j 0) → NoPosition b i s stocks

-- the block and the row, then a position that there is not
abbrev pub position_rules : Block → ℕ → ℕ → List ℕ → List Rule
position_rules b i s stocks = row_rules b i ++ (Position when NoPosition b i s stocks ∷ [])
