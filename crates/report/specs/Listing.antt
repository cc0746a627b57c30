-- The listing (document 01, "The job Catch"): the lines of a job.
use Rattle.std.specs.Prelude.{cond, List, [], ◌++◌, ◌≡◌, ℕ, zero, suc, ◌+◌, ltb}
use Rattle.block.specs.Layout as L
use Rattle.block.specs.Layout.{Block}
use Rattle.game.specs.Position.{full}
use Rattle.game.specs.Table.{Table, rank_at, move_at}
use Rattle.game.specs.Model.{bit, arena_of, RowSet}
use Rattle.game.specs.Demand.{TableOf}
use Rattle.printing.specs.Lines.{list_line, set_line, plan_line}

-- the parts of 0 to n - 1, one after another
unfoldable pub parts : (ℕ → List ℕ) → ℕ → List ℕ
parts part zero = []
parts part (suc n) = parts part n ++ part n

-- the plan line of state s of row i: rank and move at full stock by the table X
abbrev pub plan_at : Block → ℕ → Table → ℕ → List ℕ
plan_at b i X s = plan_line i s (rank_at (arena_of b i) X (full (arena_of b i) s)) (move_at (arena_of b i) X (full (arena_of b i) s))

-- the same where s is in the row's set w, and nothing elsewhere
abbrev pub plan_of : Block → ℕ → ℕ → Table → ℕ → List ℕ
plan_of b i w X s = cond (bit w s) (plan_at b i X s) []

-- one line per state in the set, rising
abbrev pub plan_lines : Block → ℕ → ℕ → Table → List ℕ
plan_lines b i w X = parts (plan_of b i w X) (L.states b)

-- the lines of row i: its set's, and right after it the plan's for next, always and until. The table is the row's, of which there is one only
pub record RowListed (b : Block) (i : ℕ) (lines : List ℕ) : Type 0 where
  pub set : ℕ
  pub is_set : RowSet b i set
  pub table : Table
  pub is_table : L.Strategic (L.kind b i) → TableOf b i table
  pub bytes : lines ≡ set_line i set ++ cond (ltb (L.kind b i) L.next_kind) [] (plan_lines b i set table)

-- the lines of the first n rows
pub data RowsListed (b : Block) : ℕ → List ℕ → Type 0 where
  none : RowsListed b 0 []
  next : {n : ℕ} {before lines : List ℕ} → RowsListed b n before → RowListed b n lines → RowsListed b (n + 1) (before ++ lines)

-- the listing of a job
abbrev pub Listed : Block → List ℕ → Type 0
Listed b out = (lines : List ℕ) × (RowsListed b (L.rows b) lines × (out ≡ list_line (L.rows b) ++ lines))
