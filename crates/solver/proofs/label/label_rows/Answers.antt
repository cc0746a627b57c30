-- `label_rows` labels one row of the word after another.
use mathlib.Core.Path.{◌≡◌, refl, sym, ◌∙◌, ap, subst}
use Prim.Native.Nat.{ℕ, ◌+◌, ◌<◌}
use native.Mathlib.Omega.{arith}
use lib.ListN.{length}
use Rattle.block.specs.Layout as L
use Rattle.block.proofs.Decide as D
use Rattle.solver.specs.Inner.Labels.{InWord, RowsLabelled}
use Rattle.solver.proofs.Needing.{names_lower, labelled_with, labelled_skip}
use Rattle.solver.proofs.label.label_rows.Goals as goal
use Rattle.solver.proofs.label.label_rows.Goals.{then-has_bit, else-has_bit}

pub loop-i-init : goal.loop-i-init
loop-i-init c = (omega arith, (refl, refl), record { each = λ j (l, _). absurd (omega arith); others = λ j _. refl; long = refl })

pub has_bit-requires : goal.has_bit-requires
has_bit-requires c = omega (arith, c.loop-i-test.true, c.requires.n_bound.0, c.requires.valid.sized.rows_fit)

pub label_row-requires : goal.label_row-requires
label_row-requires c = let small : c.loop-i.i < c.args.n = c.loop-i-test.true in
    let has = D.truth c.has_bit.ensures c.if-has_bit.true in
    let inside : c.loop-i.i < L.rows c.args.block.now = omega (arith, small, c.requires.n_bound.0) in
    record { valid = c.requires.valid; i_bound = (inside, omega (arith, c.requires.n_bound.1, c.loop-i.invariant.2.long), c.loop-i.invariant.1.0 ∙ c.requires.n_bound.2, c.loop-i.invariant.1.1 ∙ c.requires.n_bound.3); named_sets = λ j named. c.loop-i.invariant.2.each j (names_lower c.args.block.now c.requires.valid inside named, c.requires.closed c.loop-i.i j (small, has) named) }

pub overflow_step-i : goal.overflow_step-i
overflow_step-i c = omega arith

pub loop-i-smaller : goal.loop-i-smaller
loop-i-smaller c = omega (arith, c.loop-i-test.true)

pub loop-i-preserved : goal.loop-i-preserved
loop-i-preserved c = let before : c.loop-i.i < c.args.n = c.loop-i-test.true in
    let labelled = RowsLabelled c.args.block.now (InWord (c.loop-i.i + 1) c.args.word) c.args.sets.now in
    elim c.if-has_bit.branch [
      | then-has_bit w ↦
          (omega arith, (ap length w.ways-is ∙ w.label_row.ensures.ways_len_unchanged.0 ∙ c.loop-i.invariant.1.0, ap length w.ranks-is ∙ w.label_row.ensures.ways_len_unchanged.1 ∙ c.loop-i.invariant.1.1), subst labelled (sym w.sets-is) (labelled_with c.args.block.now c.args.word c.loop-i.i c.loop-i.invariant.2 w.label_row.ensures.row_labelled (D.truth c.has_bit.ensures w.if-has_bit.true)))
      | else-has_bit w ↦
          (omega arith, (ap length w.ways-is ∙ c.loop-i.invariant.1.0, ap length w.ranks-is ∙ c.loop-i.invariant.1.1), subst labelled (sym w.sets-is) (labelled_skip c.args.block.now c.args.word c.loop-i.i c.loop-i.invariant.2 (D.falsity c.has_bit.ensures w.if-has_bit.false)))
    ]

pub shape_of-sets : goal.shape_of-sets
shape_of-sets c = c.loop-i.invariant.2.long

pub shape_of-ways : goal.shape_of-ways
shape_of-ways c = c.loop-i.invariant.1.0

pub shape_of-ranks : goal.shape_of-ranks
shape_of-ranks c = c.loop-i.invariant.1.1

pub returns : goal.returns
returns c = let done : c.loop-i.i ≡ c.args.n = omega (arith, c.loop-i.invariant.0, c.loop-i-test.false) in
    record { rows_labelled = subst (λ (n : ℕ). RowsLabelled c.args.block.now (InWord n c.args.word) c.args.sets.now c.loop-i.sets) done c.loop-i.invariant.2; ways_len_unchanged = c.loop-i.invariant.1 }
