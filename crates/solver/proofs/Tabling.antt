-- Ranks and moves over the lower rows' sets are the table of the row: demand 3 holds at every position. Assumes nothing.
use mathlib.Core.List.{List}
use mathlib.Core.Path.{◌≡◌}
use Prim.Native.Nat.{ℕ, ◌<◌}
use lib.ListN.{get_or, length}
use Rattle.block.specs.Layout as L
use Rattle.block.specs.Layout.{Block, Strategic}
use Rattle.block.specs.Inner.Valid.{Valid}
use Rattle.game.specs.Inner.Facts.{Facts}
use Rattle.game.specs.Model.{arena_of}
use Rattle.game.specs.Inner.Words.{objective_by}
use Rattle.game.proofs.Blocks.Tables.{table_decided}
use Rattle.choice.specs.Tables.{RanksOf, MovesOf}
use Rattle.turns.specs.Buffers.{table_in}
use Rattle.turns.specs.Sizes.{room_bytes, moves_bytes}
use Rattle.solver.specs.Calls.{RowTable}
use Rattle.solver.specs.Inner.Labels.{Prepared}
use Rattle.rankings.proofs.ByKind.{words_decided}
use Rattle.solver.proofs.Readiness.{facts_told}

module _ {b : Block} (valid : Valid b) {i : ℕ} (inside : i < L.rows b) (strategic : Strategic (L.kind b i)) {left right : ℕ} {ranks : List ℕ} (ready : Prepared b i left right ranks) (moves : List ℕ) where
  facts : MovesOf b i left right ranks moves → Facts (arena_of b i) (table_in ranks moves) (objective_by (L.kind b i) left right)
  facts moved = record { ranks = ready.ranks_of.facts; moves = λ p fits. moved.each p fits (λ n. get_or moves n 0); decided = words_decided (arena_of b i) (L.kind b i) left right }

  pub row_table : (RanksOf b i left right ranks → MovesOf b i left right ranks moves) → length ranks ≡ room_bytes → length moves ≡ moves_bytes → RowTable b i ranks moves
  row_table goes ranks_long moves_long =
      let moved = goes ready.ranks_of in
      record {
        decided = table_decided b valid i (table_in ranks moves) (facts_told b valid i inside left right ready.left_set ready.right_set strategic (table_in ranks moves) (facts moved));
        past = λ n beyond small. (ready.ranks_of.outside n beyond small, moved.outside n beyond small);
        long = (ranks_long, moves_long);
      }
