-- Tables of the rows of a block that passes: with the local facts, demand 3 holds at every position, and the row's set is what the table
-- claims at full stock. Assumes nothing.
use mathlib.Core.Logic.Iff
use mathlib.Core.Logic.{◌↔◌}
use Prim.Native.Nat.{ℕ, ◌^◌, ◌<◌}
use native.Mathlib.Omega.{arith}
use Rattle.block.specs.Layout as L
use Rattle.block.specs.Layout.{Block, Strategic}
use Rattle.block.specs.Inner.Valid.{Valid}
use Rattle.block.proofs.Masks.{bit_above}
use Rattle.game.specs.Position.{full}
use Rattle.game.specs.Play.{CoalitionWins}
use Rattle.game.specs.Table.{Table}
use Rattle.game.specs.Inner.Facts.{Claims, Facts}
use Rattle.game.specs.Model.{RowTrue, RowSet, WonSet, arena_of, objective_of}
use Rattle.game.specs.Demand.{TableOf}
use Rattle.game.proofs.Numbers.Decide.{lt?}
use Rattle.game.proofs.Blocks.Passing.{valid_proper}
use Rattle.game.proofs.Whole.Decided.{decided, claims_win, wins_claimed}
use Rattle.game.proofs.Blocks.Formulas.{row_wins}
use Rattle.game.proofs.Bridge.Truth.{full_fits}

-- a row's set has bits of states alone
pub set_small : (b : Block) → Valid b → (i w : ℕ) → RowSet b i w → w < 2 ^ 24
set_small b valid i w told = go (lt? w (2 ^ 24))
  where
    go : Dec (w < 2 ^ 24) → w < 2 ^ 24
    go (yes l) = l
    go (no large) =
        let (s, far, one) = bit_above 24 w (λ none. omega arith) in
        absurd (omega (arith, ((told.1 s).0 one).0, valid.sized.states_fit))

-- a strategic row's set is its states whose positions at full stock the coalition wins
pub set_won : (b : Block) → Valid b → (i w : ℕ) → i < L.rows b → Strategic (L.kind b i) → RowSet b i w → WonSet b i w
set_won b valid i w inside strategic (small, told) = (small, λ s. ((λ set. let (l, true) = (told s).0 set in (l, (wins s l).0 true)), λ (l, won). (told s).1 (l, (wins s l).1 won)))
  where
    wins : (s : ℕ) → s < L.states b → RowTrue b i s ↔ CoalitionWins (arena_of b i) (objective_of b i) (full (arena_of b i) s)
    wins s l = row_wins b (valid_proper b valid) i (valid.row_fits i inside) strategic s l

module _ (b : Block) (valid : Valid b) (i : ℕ) (X : Table) (facts : Facts (arena_of b i) X (objective_of b i)) where
  -- demand 3 for the table of a row
  pub table_decided : TableOf b i X
  table_decided = decided (arena_of b i) (valid_proper b valid) X (objective_of b i) facts

  -- the states of a strategic row are those that the table claims at full stock
  pub table_set : i < L.rows b → Strategic (L.kind b i) → (q : ℕ) → q < L.states b → RowTrue b i q ↔ Claims (arena_of b i) X (objective_of b i) (full (arena_of b i) q)
  table_set inside strategic q l =
      let fits = full_fits (arena_of b i) q l in
      Iff.trans (row_wins b (valid_proper b valid) i (valid.row_fits i inside) strategic q l) (
        wins_claimed (arena_of b i) (valid_proper b valid) X (objective_of b i) facts (full (arena_of b i) q) fits,
        claims_win (arena_of b i) (valid_proper b valid) X (objective_of b i) facts (full (arena_of b i) q) fits,
      )
