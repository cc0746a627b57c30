-- What is asked about: a state of a row, with the sets of the rows that it names; a block with other bounds in that row; and one table that
-- tells of all pairs.
use Rattle.std.specs.Prelude.{true, List, ◌≡◌, ℕ, ◌≤◌, ◌<◌, length}
use Rattle.block.specs.Check.{ChargesOn}
use Rattle.block.specs.Decide.{Some}
use Rattle.block.specs.Layout as L
use Rattle.block.specs.Layout.{Block, Strategic}
use Rattle.block.specs.Inner.OneRow.{OnlyFields, IsBound}
use Rattle.block.specs.Inner.Valid.{Valid}
use Rattle.turns.specs.Sizes.{room_bytes}
use Rattle.ways.specs.Lines.{ways_bytes}
use Rattle.choice.specs.Tables.{RanksOf}
use Rattle.solver.specs.Inner.Labels.{LowerTold}
use Rattle.allowances.specs.Allowances.{Shows}
use Rattle.allowances.specs.Inner.Pairs.{pair}
use Rattle.allowances.specs.declared.pairs.Asked.{Asked}

-- a state of a strategic row of a block that passes
pub record Asking (b : Block) (a : Asked) : Type 0 where
  pub valid : Valid b
  pub inside : a.row < L.rows b
  pub strategic : Strategic (L.kind b a.row)
  pub state : a.state < L.states b
  pub lower : LowerTold b a.row a.left a.right

-- b' is b with x and y for the bounds of row i, as far as there are resources
pub record Put (i x y : ℕ) (b b' : Block) : Type 0 where
  pub only : OnlyFields i (IsBound b) b b'
  pub bounds : (j : ℕ) → j < L.resources b → L.bound b' i j ≡ pair x y j

-- b' is b with the largest pair for the row's bounds, no action in it charges, and the ranks are the row's there
pub record Tabled (b : Block) (a : Asked) (b' : Block) (ranks : List ℕ) : Type 0 where
  pub x : ℕ
  pub y : ℕ
  pub shows_x : Shows b a.row 0 x
  pub shows_y : Shows b a.row 1 y
  pub largest_x : (n : ℕ) → Shows b a.row 0 n → n ≤ x
  pub largest_y : (n : ℕ) → Shows b a.row 1 n → n ≤ y
  pub put : Put a.row x y b b'
  pub uncharged : Some (L.states b') (ChargesOn L.sum_kind b') → ⊥
  pub ranks_of : RanksOf b' a.row a.left a.right ranks

-- the lent buffers have their lengths, and where one table is enough the copy and the ranks are that
abbrev pub Lent : Block → Asked → List ℕ → List ℕ → List ℕ → Type 0
Lent b a copy ways ranks =
    (length copy ≡ L.block_bytes) × (length ways ≡ ways_bytes) × (length ranks ≡ room_bytes) × (a.once ≡ true → Tabled b a copy ranks)
