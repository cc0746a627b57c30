-- `job_lines` writes the first line and then the lines of each row.
use mathlib.Core.Path.{◌≡◌, refl, sym, ap, ◌∙◌}
use native.Mathlib.Omega.{arith}
use lib.ListN.{length}
use Rattle.std.proofs.lemmas.Grind.{common_steps}
use Rattle.block.specs.Layout as L
use Rattle.text.specs.Inner.Adding.{front}
use Rattle.solver.proofs.Labelling.{lower_more}
use Rattle.report.specs.Listing.{Listed}
use Rattle.report.proofs.Jobwise.{rowed_none, rowed_next, rowed_all}
use Rattle.report.proofs.rows.job_lines.Goals as goal

pub list_line-requires : goal.list_line-requires
list_line-requires c = (omega (arith, c.requires.out_len.0, ap length c.new-lines.ensures.empty.0), omega (arith, c.rows-n.ensures, c.requires.valid.sized.rows_fit))

pub loop-i-init : goal.loop-i-init
loop-i-init c = ((omega (arith, c.rows-n.ensures, c.requires.valid.sized.rows_fit), refl, c.requires.out_len.1, c.requires.out_len.2, (refl, refl)), ((λ j l. absurd (omega arith)), rowed_none c.args.block.now c.list_line.new.out c.new-lines.result c.new-lines.ensures.empty.1 (λ rest. rw (← c.rows-n.ensures) (c.list_line.ensures.adds rest)) c.list_line.ensures.within.0))

pub row_lines-requires : goal.row_lines-requires
row_lines-requires c = record { valid = (c.requires.valid, omega (arith, c.loop-i-test.true, c.rows-n.ensures)); sets_len = (c.loop-i.invariant.0.1, c.loop-i.invariant.0.2, c.loop-i.invariant.0.3, omega (arith, ap length c.new-lines.ensures.empty.0, c.loop-i.invariant.1.1.near, c.loop-i-test.true, c.rows-n.ensures, c.requires.valid.sized.rows_fit)); lower_sets = c.loop-i.invariant.1.0 }

pub overflow_step-i : goal.overflow_step-i
overflow_step-i c = omega (arith, c.loop-i-test.true, c.rows-n.ensures, c.requires.valid.sized.rows_fit)

pub loop-i-smaller : goal.loop-i-smaller
loop-i-smaller c = omega (arith, c.loop-i-test.true)

pub loop-i-preserved : goal.loop-i-preserved
loop-i-preserved c = let (lines, (listed, added)) = c.row_lines.ensures.listed in (
  (omega (arith, c.loop-i-test.true), c.row_lines.ensures.row_labelled.long ∙ c.loop-i.invariant.0.1, c.row_lines.ensures.ranks_len.0, c.row_lines.ensures.ranks_len.1, (c.row_lines.ensures.within.1.0 ∙ c.loop-i.invariant.0.4.0, c.row_lines.ensures.within.1.1 ∙ c.loop-i.invariant.0.4.1)),
  (lower_more c.args.block.now c.loop-i.i c.loop-i.sets c.row_lines.new.sets c.loop-i.invariant.1.0 c.row_lines.ensures.row_labelled, rowed_next c.args.block.now c.loop-i.lines c.loop-i.i c.loop-i.invariant.1.1 lines c.row_lines.new.out listed added c.row_lines.ensures.within.0),
)

pub shape_of-ranks : goal.shape_of-ranks
shape_of-ranks c = c.loop-i.invariant.0.2 ∙ sym c.requires.out_len.1

pub shape_of-moves : goal.shape_of-moves
shape_of-moves c = c.loop-i.invariant.0.3 ∙ sym c.requires.out_len.2

pub returns-clause-listed : goal.returns-clause-listed
returns-clause-listed c =
    let all : c.loop-i.i ≡ L.rows c.args.block.now = omega (arith, c.loop-i.invariant.0.0, c.loop-i-test.false, c.rows-n.ensures) in
    let whole : Listed c.args.block.now (front c.loop-i.lines) = rowed_all c.args.block.now c.loop-i.lines c.loop-i.i c.loop-i.invariant.1.1 all in
    (grind (arith, common_steps), omega (arith, c.loop-i.invariant.1.1.near, all, c.requires.valid.sized.rows_fit))

pub returns-clause-ranks_len : goal.returns-clause-ranks_len
returns-clause-ranks_len c = (c.loop-i.invariant.0.2, c.loop-i.invariant.0.3)
