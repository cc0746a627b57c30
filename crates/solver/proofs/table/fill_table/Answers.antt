-- `fill_table` makes the row ready and fills its moves.
use mathlib.Core.Path.{◌∙◌, subst}
use Prim.Native.Nat.{ℕ}
use native.Mathlib.Omega.{arith}
use lib.ListN.{length-replicate}
use Rattle.choice.specs.Tables.{RanksOf, MovesOf}
use Rattle.solver.proofs.Tabling.{row_table}
use Rattle.solver.proofs.table.fill_table.Goals as goal

pub prepare-ready-requires : goal.prepare-ready-requires
prepare-ready-requires c = record { valid = c.requires.valid; i_bound = (c.requires.i_bound.0, c.requires.i_bound.1, length-replicate {A = ℕ} 6704 0, c.requires.ranks_len.0) }

pub fill_moves-requires : goal.fill_moves-requires
fill_moves-requires c = record { valid = c.requires.valid; sought = (c.prepare-ready.ensures.ranked.sought, c.prepare-ready.ensures.ranked.listed, omega (arith, c.prepare-ready.ensures.long), c.requires.ranks_len.1) }

pub returns : goal.returns
returns c = row_table c.requires.valid c.requires.i_bound.0 c.requires.i_bound.1 c.prepare-ready.ensures.prepared c.fill_moves.new.moves
    (subst (λ (i : ℕ). RanksOf c.args.block.now i c.prepare-ready.result.row.set c.prepare-ready.result.right c.prepare-ready.new.ranks → MovesOf c.args.block.now i c.prepare-ready.result.row.set c.prepare-ready.result.right c.prepare-ready.new.ranks c.fill_moves.new.moves) c.prepare-ready.ensures.ranked.index_is (c.fill_moves.ensures.by_index c.prepare-ready.result.right))
    c.prepare-ready.ensures.long (c.fill_moves.ensures.moves_len_unchanged ∙ c.requires.ranks_len.1)
