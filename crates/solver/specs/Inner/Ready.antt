-- A row made ready to be asked about its positions.
use Rattle.std.specs.Prelude.{List, ◌≡◌, ℕ, ◌<◌, length}
use Rattle.block.specs.Layout as L
use Rattle.block.specs.Layout.{Block}
use Rattle.block.specs.Inner.Valid.{Valid}
use Rattle.turns.specs.Sizes.{room_bytes}
use Rattle.solver.specs.Inner.Labels.{Prepared}
use Rattle.solver.specs.Inner.Rows.{RowRanked}
use Rattle.solver.specs.declared.ready.Ready.{Ready}

-- strategic row i of a block that passes, listed for its moves, and its ranks
pub record MadeReady (b : Block) (i : ℕ) (ready : Ready) (ways ranks : List ℕ) : Type 0 where
  pub valid : Valid b
  pub inside : i < L.rows b
  pub strategic : L.Strategic (L.kind b i)
  pub prepared : Prepared b i ready.row.set ready.right ranks
  pub ranked : RowRanked b i ready.row.set ready.right ready.row ways ranks
  pub long : length ranks ≡ room_bytes
