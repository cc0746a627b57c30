-- `list_row` labels the rows that its own needs, then its own, and lists the set of that.
use mathlib.Core.Path.{sym, ◌∙◌, subst}
use Prim.Native.Nat.{ℕ}
use native.Mathlib.Omega.{arith}
use lib.ListN.{length-replicate}
use Rattle.game.specs.Model.{RowSet}
use Rattle.game.proofs.Blocks.Tables.{set_small}
use Rattle.solver.specs.Inner.Needs.{directly}
use Rattle.lister.proofs.Calls.{set_states}
use Rattle.lister.proofs.list_row.Goals as goal
use Rattle.lister.proofs.list_row.Lts as lts
use Rattle.lister.proofs.list_row.Reads as reads
use Rattle.lister.proofs.list_row.Tie as tie

abbrev At-After-word_at-set : Type 0
At-After-word_at-set = lts.After-word_at tie.the-claims reads.Pre reads.Post tie.handed_clauses

pub label_row-requires : goal.label_row-requires
label_row-requires c = record { valid = c.requires.valid; i_bound = (c.requires.i_bound.0, omega (arith, c.label_needed.ensures.rows_labelled.long), c.label_needed.ensures.ways_len_unchanged.0 ∙ length-replicate {A = ℕ} 6704 0, c.label_needed.ensures.ways_len_unchanged.1 ∙ c.requires.i_bound.2); named_sets = λ j named. c.label_needed.ensures.rows_labelled.each j (directly named) }

-- the word is the row's set
row_set : (c : At-After-word_at-set) → RowSet c.args.block.now c.args.i c.word_at-set.result
row_set c =
    subst (RowSet c.args.block.now c.args.i) (sym c.word_at-set.ensures.0) c.label_row.ensures.row_labelled.set

pub list_set-requires : goal.list_set-requires
list_set-requires c = (set_small c.args.block.now c.requires.valid c.args.i c.word_at-set.result (row_set c.before.before), c.requires.i_bound.1)

pub returns : goal.returns
returns c = (
  set_states c.args.block.now c.args.i c.word_at-set.result c.list_set.new.list c.list_set.result (row_set c.before.before.before.before.before) c.list_set.ensures,
  c.label_row.ensures.ways_len_unchanged.1 ∙ c.label_needed.ensures.ways_len_unchanged.1 ∙ c.requires.i_bound.2,
)
