-- `row_lines` labels the row and writes its set, then fills its table and writes the plan.
use mathlib.Core.List.{◌++◌}
use mathlib.Core.Path.{sym, subst, ◌∙◌}
use Prim.Native.Nat.{ℕ, ◌^◌, ◌≤◌, ◌<◌}
use native.Mathlib.Omega.{arith}
use lib.ListN.{length-replicate}
use Rattle.block.specs.Layout as L
use Rattle.text.proofs.Adding.{adds_then}
use Rattle.game.specs.Model.{RowSet}
use Rattle.turns.specs.Buffers.{table_in}
use Rattle.game.proofs.Blocks.Tables.{set_small}
use Rattle.solver.proofs.Needing.{lower_named}
use Rattle.printing.specs.Lines.{set_line}
use Rattle.report.specs.Listing.{plan_lines}
use Rattle.report.proofs.Rowwise.{set_inside, plain_listed, strategic_listed}
use Rattle.report.proofs.rows.row_lines.Goals as goal

pub label_row-requires : goal.label_row-requires
label_row-requires c = record { valid = c.requires.valid.0; i_bound = (c.requires.valid.1, omega (arith, c.requires.sets_len.0), length-replicate {A = ℕ} 6704 0, omega (arith, c.requires.sets_len.1)); named_sets = lower_named c.args.block.now c.requires.valid.0 c.args.i c.args.sets.now c.requires.valid.1 c.requires.lower_sets }

pub set_line-requires : goal.set_line-requires
set_line-requires c =
    let told : RowSet c.args.block.now c.args.i c.word_at-set.result = subst (RowSet c.args.block.now c.args.i) (sym c.word_at-set.ensures.0) c.label_row.ensures.row_labelled.set in
    let small : c.word_at-set.result < 2 ^ 24 = set_small c.args.block.now c.requires.valid.0 c.args.i c.word_at-set.result told in
    (omega arith, (omega (arith, c.requires.valid.1, c.requires.valid.0.sized.rows_fit), small))

pub returns-else-kind-ge-NEXT_KIND-clause-listed : goal.returns-else-kind-ge-NEXT_KIND-clause-listed
returns-else-kind-ge-NEXT_KIND-clause-listed c =
    let told : RowSet c.args.block.now c.args.i c.word_at-set.result = subst (RowSet c.args.block.now c.args.i) (sym c.word_at-set.ensures.0) c.label_row.ensures.row_labelled.set in
    let low : L.kind c.args.block.now c.args.i < L.next_kind = omega (arith, c.if-kind-ge-NEXT_KIND.false, c.kind.ensures) in
    (set_line c.args.i c.word_at-set.result, (plain_listed c.args.block.now c.args.i c.word_at-set.result told low, c.set_line.ensures.adds))

pub row_table-requires : goal.row_table-requires
row_table-requires c =
    let strategic : L.Strategic (L.kind c.args.block.now c.args.i) = (omega (arith, c.if-kind-ge-NEXT_KIND.true, c.kind.ensures), (c.requires.valid.0.row_fits c.args.i c.requires.valid.1).known) in
    record { valid = c.requires.valid.0; i_bound = (c.requires.valid.1, strategic); sets_len = (c.label_row.ensures.row_labelled.long ∙ c.requires.sets_len.0, c.label_row.ensures.ways_len_unchanged.0 ∙ length-replicate {A = ℕ} 6704 0, c.label_row.ensures.ways_len_unchanged.1 ∙ c.requires.sets_len.1, c.requires.sets_len.2); ranked = c.label_row.ensures.ranked }

pub plan_lines-requires : goal.plan_lines-requires
plan_lines-requires c =
    let told : RowSet c.args.block.now c.args.i c.word_at-set.result = subst (RowSet c.args.block.now c.args.i) (sym c.word_at-set.ensures.0) c.label_row.ensures.row_labelled.set in
    let small : c.word_at-set.result < 2 ^ 24 = set_small c.args.block.now c.requires.valid.0 c.args.i c.word_at-set.result told in
    let strategic : L.Strategic (L.kind c.args.block.now c.args.i) = (omega (arith, c.if-kind-ge-NEXT_KIND.true, c.kind.ensures), (c.requires.valid.0.row_fits c.args.i c.requires.valid.1).known) in
    record {
      valid = c.requires.valid.0;
      i_bound = (c.requires.valid.1, strategic);
      set_bound = (small, set_inside c.args.block.now c.args.i c.word_at-set.result told);
      room_bytes_in_bounds = (omega (arith, c.row_table.ensures.long.0), omega (arith, c.row_table.ensures.long.1), omega (arith, c.set_line.ensures.within, c.requires.sets_len.3));
    }

pub returns-then-kind-ge-NEXT_KIND-clause-listed : goal.returns-then-kind-ge-NEXT_KIND-clause-listed
returns-then-kind-ge-NEXT_KIND-clause-listed c =
    let X = table_in c.label_row.new.ranks c.row_table.new.moves in
    let told : RowSet c.args.block.now c.args.i c.word_at-set.result = subst (RowSet c.args.block.now c.args.i) (sym c.word_at-set.ensures.0) c.label_row.ensures.row_labelled.set in
    let high : L.next_kind ≤ L.kind c.args.block.now c.args.i = omega (arith, c.if-kind-ge-NEXT_KIND.true, c.kind.ensures) in (
      set_line c.args.i c.word_at-set.result ++ plan_lines c.args.block.now c.args.i c.word_at-set.result X,
      (
        strategic_listed c.args.block.now c.args.i c.word_at-set.result told X high c.row_table.ensures.decided,
        adds_then (set_line c.args.i c.word_at-set.result) (plan_lines c.args.block.now c.args.i c.word_at-set.result X) c.args.out.now c.set_line.new.out c.plan_lines.new.out c.set_line.ensures.adds c.plan_lines.ensures.adds,
      ),
    )
