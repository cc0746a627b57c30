-- `prepare` labels the rows that it needs, lists the row and ranks it.
use mathlib.Core.Path.{sym, ◌∙◌, subst}
use Prim.Native.Nat.{ℕ}
use Rattle.solver.specs.Inner.Labels.{Prepared}
use Rattle.solver.specs.Inner.Rows.{RowRanked}
use Rattle.solver.proofs.ready.prepare.Goals as goal

pub lower_sets-lower-requires : goal.lower_sets-lower-requires
lower_sets-lower-requires c = record { valid = c.requires.valid; i_bound = (c.requires.i_bound.0, c.requires.i_bound.2, c.requires.i_bound.3) }

pub rank_row-row-requires : goal.rank_row-row-requires
rank_row-row-requires c = record { valid = c.requires.valid; i_bound = (c.requires.i_bound.0, c.requires.i_bound.1, c.lower_sets-lower.ensures.ways_len_unchanged.0 ∙ c.requires.i_bound.2, c.lower_sets-lower.ensures.ways_len_unchanged.1 ∙ c.requires.i_bound.3) }

pub returns : goal.returns
returns c = let set_is = sym c.rank_row-row.ensures.row_ranked.set_is in
    record {
      valid = c.requires.valid;
      inside = c.requires.i_bound.0;
      strategic = c.requires.i_bound.1;
      prepared = subst (λ (w : ℕ). Prepared c.args.block.now c.args.i w c.lower_sets-lower.result.right c.rank_row-row.new.ranks) set_is
          (record { left_set = c.lower_sets-lower.ensures.lower_told.left_set; right_set = c.lower_sets-lower.ensures.lower_told.right_set; ranks_of = c.rank_row-row.ensures.row_ranked.ranks_of });
      ranked = subst (λ (w : ℕ). RowRanked c.args.block.now c.args.i w c.lower_sets-lower.result.right c.rank_row-row.result c.rank_row-row.new.ways c.rank_row-row.new.ranks) set_is c.rank_row-row.ensures.row_ranked;
      long = c.rank_row-row.ensures.ranks_len_unchanged ∙ c.lower_sets-lower.ensures.ways_len_unchanged.1 ∙ c.requires.i_bound.3;
    }
