-- `lower_sets` labels the rows that the row needs, and takes the words of those that it names.
use mathlib.Core.Logic.{inl, inr}
use mathlib.Core.Path.{refl, sym, subst}
use Rattle.block.specs.Layout as L
use Rattle.game.specs.Model.{RowSet}
use Rattle.solver.specs.Inner.Needs.{directly}
use Rattle.solver.proofs.ready.lower_sets.Goals as goal

pub returns : goal.returns
returns c = record {
  lower_told = record {
    left_set = λ uses. subst (RowSet c.args.block.now (L.left c.args.block.now c.args.i)) (sym (c.left_set.ensures.value uses)) (c.label_needed.ensures.rows_labelled.each (L.left c.args.block.now c.args.i) (directly (inl (uses, refl))));
    right_set = λ uses. subst (RowSet c.args.block.now (L.right c.args.block.now c.args.i)) (sym (c.right_set.ensures.value uses)) (c.label_needed.ensures.rows_labelled.each (L.right c.args.block.now c.args.i) (directly (inr (uses, refl))));
  };
  ways_len_unchanged = c.label_needed.ensures.ways_len_unchanged;
}
