-- The starred cases of document 01 hold of the meaning. The checker computes each strategic row's table by the solver, which has the local
-- facts; truth, rank, move and reply by plays then follow. Assumes nothing.
use mathlib.Core.List.{[], ◌∷◌}
use mathlib.Core.Path.{◌≡◌, refl, subst}
use Prim.Native.Nat.{ℕ}
use lib.Dec.{T, ltb, lit<}
use Rattle.block.specs.Layout as L
use Rattle.block.specs.Layout.{Block}
use Rattle.block.specs.Inner.Valid.{RowFits}
use Rattle.game.specs.Position.{Position, IsPosition, positions, Allowed}
use Rattle.game.specs.Play.{CoalitionWins, OpponentsWin}
use Rattle.game.specs.Table.{Table, never, RankIs, rank_at, ReplyIs, Decided}
use Rattle.game.specs.Inner.Facts.{RowsDecided, Facts}
use Rattle.game.specs.Model.{structure_of, RowSet, arena_of, objective_of}
use Rattle.game.specs.Catch.{catch, catch7, at, starred, AllHold}
use Rattle.game.proofs.Numbers.Decide.{from_yes, is_yes, not?}
use Rattle.game.proofs.Bridge.Proper.{Proper}
use Rattle.game.proofs.Whole.Decided.{decided, unclaimed_opponents, rank_by_plays, reply_by_plays}
use Rattle.game.proofs.Local.Decidable.{position?, allowed?, claims?}
use Rattle.game.proofs.Local.Aims.{reply_is?}
use Rattle.game.proofs.Solving.Solver.{lowering}
use Rattle.game.proofs.Solving.Determined.{listed, solved_ranks, found_moves, solved_table, solved_facts}
use Rattle.game.proofs.Blocks.Tests.{tests_proper, row_fits?, strategic?}
use Rattle.game.proofs.Blocks.Labels.{decided_by_sets, prop_row, not_row, or_row, claimed?, strategic_row}

-- a row's meaning by its table
module _ (b : Block) (proper : Proper (structure_of b)) (i : ℕ) (X : Table) (facts : Facts (arena_of b i) X (objective_of b i)) where
  set_by_table : (w : ℕ) (row : RowFits b i) → T (is_yes (strategic? b (L.kind b i))) → T (is_yes (claimed? b proper i row w X)) → RowSet b i w
  set_by_table w row strategic claimed = strategic_row b proper i row w X (from_yes (strategic? b (L.kind b i)) strategic) facts claimed

  rank_by_table : (p : Position) → T (is_yes (position? (arena_of b i) p)) → RankIs (arena_of b i) (objective_of b i) p (rank_at (arena_of b i) X p)
  rank_by_table p fits = rank_by_plays (arena_of b i) proper X (objective_of b i) facts p (from_yes (position? (arena_of b i) p) fits)

  decided_by_table : (p : Position) → IsPosition (arena_of b i) p → Decided (arena_of b i) X (objective_of b i) p
  decided_by_table = decided (arena_of b i) proper X (objective_of b i) facts

  reply_by_table : (rows : RowsDecided (arena_of b i) (objective_of b i)) (p : Position) (fits : IsPosition (arena_of b i) p) (m r : ℕ) (allowed : Allowed (arena_of b i) p m)
      → T (is_yes (reply_is? (arena_of b i) proper X p fits (objective_of b i) rows m allowed r))
      → ReplyIs (arena_of b i) X (objective_of b i) (CoalitionWins (arena_of b i) (objective_of b i)) p m r
  reply_by_table rows p fits m r allowed passes =
      reply_by_plays (arena_of b i) proper X (objective_of b i) facts p fits m r allowed (from_yes (reply_is? (arena_of b i) proper X p fits (objective_of b i) rows m allowed r) passes)

-- a row's table by the solver, from the sets of lower rows
module _ (b : Block) (proper : Proper (structure_of b)) (i w₁ w₂ : ℕ) (left : RowSet b (L.left b i) w₁) (right : RowSet b (L.right b i) w₂) where
  abbrev computed : Table
  computed = solved_table (arena_of b i) proper (objective_of b i) (decided_by_sets b i w₁ w₂ left right)

  facts_computed : (X : Table) → computed ≡ X → T (ltb (positions (arena_of b i)) never) → Facts (arena_of b i) X (objective_of b i)
  facts_computed X e few =
      subst (λ (Y : Table). Facts (arena_of b i) Y (objective_of b i)) e (solved_facts (arena_of b i) proper (lit< few) (objective_of b i) (decided_by_sets b i w₁ w₂ left right))

-- the tables that it comes to, by position number
abbrev table3 : Table
table3 =
    listed
    (65535 ∷ 65535 ∷ 65535 ∷ 65535 ∷ 65535 ∷ 65535 ∷ 65535 ∷ 65535 ∷ 65535 ∷ 1 ∷ 1 ∷ 1 ∷ 0 ∷ 0 ∷ 0 ∷ 0 ∷ 0 ∷ 0 ∷ [])
    (255 ∷ 255 ∷ 255 ∷ 255 ∷ 255 ∷ 255 ∷ 255 ∷ 255 ∷ 255 ∷ 1 ∷ 1 ∷ 1 ∷ 0 ∷ 0 ∷ 0 ∷ 0 ∷ 0 ∷ 0 ∷ [])

abbrev table4 : Table
table4 =
    listed
    (65535 ∷ 65535 ∷ 65535 ∷ 65535 ∷ 65535 ∷ 2 ∷ 65535 ∷ 65535 ∷ 65535 ∷ 1 ∷ 1 ∷ 1 ∷ 0 ∷ 0 ∷ 0 ∷ 0 ∷ 0 ∷ 0 ∷ [])
    (255 ∷ 255 ∷ 255 ∷ 255 ∷ 255 ∷ 1 ∷ 255 ∷ 255 ∷ 255 ∷ 1 ∷ 1 ∷ 1 ∷ 0 ∷ 0 ∷ 0 ∷ 0 ∷ 0 ∷ 0 ∷ [])

abbrev table5 : Table
table5 =
    listed
    (65535 ∷ 65535 ∷ 65535 ∷ 65535 ∷ 65535 ∷ 65535 ∷ 65535 ∷ 65535 ∷ 1 ∷ 1 ∷ 0 ∷ 0 ∷ 0 ∷ 0 ∷ 0 ∷ [])
    (255 ∷ 255 ∷ 255 ∷ 255 ∷ 255 ∷ 255 ∷ 255 ∷ 255 ∷ 1 ∷ 1 ∷ 0 ∷ 0 ∷ 0 ∷ 0 ∷ 0 ∷ [])

abbrev table6 : Table
table6 =
    listed
    (65535 ∷ 1 ∷ 0 ∷ [])
    (4 ∷ 255 ∷ 255 ∷ [])

catch_proper : Proper (structure_of catch)
catch_proper = tests_proper catch tt

row : (i : ℕ) → T (is_yes (row_fits? catch i)) → RowFits catch i
row i = from_yes (row_fits? catch i)

set0 : RowSet catch 0 4
set0 = prop_row catch catch_proper 0 (row 0 tt) 4 refl tt

set1 : RowSet catch 1 3
set1 = not_row catch catch_proper 1 (row 1 tt) 3 4 refl set0 tt

set2 : RowSet catch 2 7
set2 = or_row catch catch_proper 2 (row 2 tt) 7 4 3 refl set0 set1 tt

-- what the solver computes
computed3 : computed catch catch_proper 3 7 4 set2 set0 ≡ table3
unfolding solved_ranks lowering found_moves
computed3 = refl

computed4 : computed catch catch_proper 4 7 4 set2 set0 ≡ table4
unfolding solved_ranks lowering found_moves
computed4 = refl

computed5 : computed catch catch_proper 5 7 4 set2 set0 ≡ table5
unfolding solved_ranks lowering found_moves
computed5 = refl

facts3 : Facts (arena_of catch 3) table3 (objective_of catch 3)
facts3 = facts_computed catch catch_proper 3 7 4 set2 set0 table3 computed3 tt

facts4 : Facts (arena_of catch 4) table4 (objective_of catch 4)
facts4 = facts_computed catch catch_proper 4 7 4 set2 set0 table4 computed4 tt

facts5 : Facts (arena_of catch 5) table5 (objective_of catch 5)
facts5 = facts_computed catch catch_proper 5 7 4 set2 set0 table5 computed5 tt

-- row 3 at state 0 with stock 5
start : IsPosition (arena_of catch 3) (at 0 5)
start = from_yes (position? (arena_of catch 3) (at 0 5)) tt

rows3 : RowsDecided (arena_of catch 3) (objective_of catch 3)
rows3 = decided_by_sets catch 3 7 4 set2 set0

lost3 : OpponentsWin (arena_of catch 3) (objective_of catch 3) (at 0 5)
lost3 =
    unclaimed_opponents (arena_of catch 3) catch_proper table3 (objective_of catch 3) facts3 (at 0 5) start
    (from_yes (not? (claims? (arena_of catch 3) table3 (objective_of catch 3) (at 0 5))) tt)

-- Catch with the seventh row
catch7_proper : Proper (structure_of catch7)
catch7_proper = tests_proper catch7 tt

row7 : (i : ℕ) → T (is_yes (row_fits? catch7 i)) → RowFits catch7 i
row7 i = from_yes (row_fits? catch7 i)

set0' : RowSet catch7 0 4
set0' = prop_row catch7 catch7_proper 0 (row7 0 tt) 4 refl tt

set1' : RowSet catch7 1 3
set1' = not_row catch7 catch7_proper 1 (row7 1 tt) 3 4 refl set0' tt

computed6 : computed catch7 catch7_proper 6 3 4 set1' set0' ≡ table6
unfolding solved_ranks lowering found_moves
computed6 = refl

facts6 : Facts (arena_of catch7 6) table6 (objective_of catch7 6)
facts6 = facts_computed catch7 catch7_proper 6 3 4 set1' set0' table6 computed6 tt

pub starred_hold : AllHold starred
unfolding rows3
starred_hold = (
  set0,
  (
    set1,
    (
      set2,
      (
        set_by_table catch catch_proper 3 table3 facts3 6 (row 3 tt) tt tt,
        (
          set_by_table catch catch_proper 4 table4 facts4 7 (row 4 tt) tt tt,
          (
            set_by_table catch catch_proper 5 table5 facts5 6 (row 5 tt) tt tt,
            (
              rank_by_table catch catch_proper 4 table4 facts4 (at 0 5) tt,
              (
                rank_by_table catch catch_proper 4 table4 facts4 (at 0 4) tt,
                (
                  rank_by_table catch catch_proper 4 table4 facts4 (at 1 3) tt,
                  (
                    rank_by_table catch catch_proper 4 table4 facts4 (at 1 2) tt,
                    (
                      (
                        table3,
                        decided_by_table catch catch_proper 3 table3 facts3,
                        lost3,
                        reply_by_table catch catch_proper 3 table3 facts3 rows3 (at 0 5) start 1 4 (from_yes (allowed? (arena_of catch 3) (at 0 5) 1) tt) tt,
                      ),
                      (
                        (
                          table3,
                          decided_by_table catch catch_proper 3 table3 facts3,
                          lost3,
                          reply_by_table catch catch_proper 3 table3 facts3 rows3 (at 0 5) start 0 0 (from_yes (allowed? (arena_of catch 3) (at 0 5) 0) tt) tt,
                        ),
                        (
                          (
                            set_by_table catch7 catch7_proper 6 table6 facts6 1 (row7 6 tt) tt tt,
                            (table6, decided_by_table catch7 catch7_proper 6 table6 facts6, refl),
                          ),
                          tt,
                        ),
                      ),
                    ),
                  ),
                ),
              ),
            ),
          ),
        ),
      ),
    ),
  ),
)
