-- Allowances as pairs of numbers, and which of them are tried.
use Rattle.std.specs.Prelude.{cond, [], ◌∷◌, ◌↔◌, ℕ, ◌+◌, ◌≤◌, ◌<◌, eqb, get_or}
use Rattle.block.specs.Layout as L
use Rattle.block.specs.Layout.{Block}
use Rattle.game.specs.Model.{bounds_by, RowTrueWith}
use Rattle.allowances.specs.Allowances.{Allowance, Shows, max_allowances}

abbrev pub pair : ℕ → ℕ → Allowance
pair x y j = get_or (x ∷ y ∷ []) j 0

-- with the pair for its bounds row i is true in state q
abbrev pub Enough : Block → ℕ → ℕ → ℕ → ℕ → Type 0
Enough b i q x y = RowTrueWith b i (bounds_by b (pair x y)) q

-- the numbers from first below end are those of resource j
pub record Spans (b : Block) (i j first end : ℕ) : Type 0 where
  pub each : (n : ℕ) → Shows b i j n ↔ ((first ≤ n) × (n < end))
  pub some : first < end
  pub few : end ≤ first + max_allowances
  pub bytes : end ≤ 256

-- the stock that stands for an allowance
abbrev pub stock_of : ℕ → ℕ
stock_of n = cond (eqb n L.unlimited) 0 n

-- r is the first number from `first` below `end` that is enough beside x, and `end` where there is none
pub record FirstEnough (b : Block) (i q x first end r : ℕ) : Type 0 where
  pub found : r < end → Enough b i q x r
  pub none : (y : ℕ) → y < r → first ≤ y → Enough b i q x y → ⊥
  pub range : (first ≤ r) × (r ≤ end)
