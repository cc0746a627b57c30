-- The sets that the label call promises (specs' SetsIn). Assumes nothing.
use mathlib.Core.List.{List}
use mathlib.Core.Path.{◌≡◌}
use Prim.Native.Nat.{ℕ, ◌≤◌}
use lib.ListN.{length}
use Rattle.block.specs.Layout as L
use Rattle.block.specs.Layout.{Block}
use Rattle.block.specs.Inner.Valid.{Valid}
use Rattle.turns.specs.Buffers.{word_in}
use Rattle.turns.specs.Sizes.{sets_bytes}
use Rattle.game.proofs.Blocks.Tables.{set_won}
use Rattle.solver.specs.Calls.{SetsIn}
use Rattle.solver.specs.Inner.Labels.{LowerSets}

pub sets_in : (b : Block) (sets : List ℕ) → Valid b → LowerSets b (L.rows b) sets → ((j : ℕ) → L.rows b ≤ j → word_in sets j ≡ 0) → length sets ≡ sets_bytes → SetsIn b sets
sets_in b sets valid each past long = record {
  each = each;
  won = λ i inside strategic. set_won b valid i (word_in sets i) inside strategic (each i inside);
  past = λ i l _. past i l;
  long = long;
}
