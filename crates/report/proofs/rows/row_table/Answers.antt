-- `row_table` fills the moves that go with the ranks.
use mathlib.Core.Path.{◌≡◌, sym, subst, subst₂, ◌∙◌}
use Prim.Native.Nat.{ℕ, ◌<◌}
use native.Mathlib.Omega.{arith}
use Rattle.block.specs.Layout as L
use Rattle.turns.specs.Buffers.{word_in}
use Rattle.choice.specs.Tables.{RanksOf, MovesOf}
use Rattle.solver.specs.Inner.Labels.{Prepared}
use Rattle.solver.proofs.Tabling.{row_table}
use Rattle.report.proofs.rows.row_table.Goals as goal
use Rattle.report.proofs.rows.row_table.Lts as lts
use Rattle.report.proofs.rows.row_table.Reads as reads
use Rattle.report.proofs.rows.row_table.Tie as tie

abbrev At-Start : Type 0
At-Start = lts.Start tie.the-claims reads.Pre reads.Post tie.handed_clauses

-- the row made ready, with the word that was found for its left row
told : (c : At-Start) (w : ℕ) → (L.prop_kind < L.kind c.args.block.now c.args.i → w ≡ word_in c.args.sets.now (L.left c.args.block.now c.args.i))
    → (right : ℕ) × Prepared c.args.block.now c.args.i w right c.args.ranks.now
told c w is =
    let uses : L.prop_kind < L.kind c.args.block.now c.args.i = omega (arith, c.requires.i_bound.1.0) in
    let (right, ready) = c.requires.ranked c.requires.i_bound.1 in
    (right, subst (λ (v : ℕ). Prepared c.args.block.now c.args.i v right c.args.ranks.now) (sym (is uses)) ready)

pub list_moves-row-requires : goal.list_moves-row-requires
list_moves-row-requires c = record { valid = c.requires.valid; i_bound = (c.requires.i_bound.0, c.requires.i_bound.1, c.requires.sets_len.1) }

pub fill_moves-requires : goal.fill_moves-requires
fill_moves-requires c = record { valid = c.requires.valid; sought = (c.list_moves-row.ensures.0, c.list_moves-row.ensures.1, omega (arith, c.requires.sets_len.2), c.requires.sets_len.3) }

pub returns : goal.returns
returns c = let (right, ready) = told c.before.before.before.before.before.before.before.before.before.before.before.before.before.before.before c.left_set-left.result c.left_set-left.ensures.value in
    let (_, _, index, set) = c.list_moves-row.ensures in
    let moved = subst₂ (λ (i w : ℕ). RanksOf c.args.block.now i w right c.args.ranks.now → MovesOf c.args.block.now i w right c.args.ranks.now c.fill_moves.new.moves) index set (c.fill_moves.ensures.by_index right) in
    row_table c.requires.valid c.requires.i_bound.0 c.requires.i_bound.1 ready c.fill_moves.new.moves moved c.requires.sets_len.2 (c.fill_moves.ensures.moves_len_unchanged ∙ c.requires.sets_len.3)
