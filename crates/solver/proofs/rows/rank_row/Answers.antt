-- `rank_row` lists the row first.
use mathlib.Core.Path.{subst₂}
use Prim.Native.Nat.{ℕ}
use Rattle.choice.specs.Tables.{RanksOf}
use Rattle.solver.proofs.rows.rank_row.Goals as goal

pub returns : goal.returns
returns c = let (sought, listed, index, set) = c.list_moves-row.ensures in
    record {
      row_ranked = record {
        sought = sought;
        listed = listed;
        index_is = index;
        set_is = set;
        ranks_of = subst₂ (λ (i left : ℕ). RanksOf c.args.block.now i left c.args.right c.rank_listed.new.ranks) index set c.rank_listed.ensures.0;
      };
      ranks_len_unchanged = c.rank_listed.ensures.1;
    }
