-- `left_set` reads the word of a lower row.
use mathlib.Core.Path.{refl, ◌∙◌, ap}
use native.Mathlib.Omega.{arith}
use Rattle.turns.specs.Buffers.{word_in}
use Rattle.solver.proofs.label.left_set.Goals as goal

pub returns-then-kind-eq-PROP_KIND : goal.returns-then-kind-eq-PROP_KIND
returns-then-kind-eq-PROP_KIND c = record { value = (λ uses. absurd (omega (arith, c.kind.ensures, c.if-kind-eq-PROP_KIND.true))); value_2 = λ _. refl }

pub word_at-requires : goal.word_at-requires
word_at-requires c = let lower = (c.requires.valid.row_fits c.args.i c.requires.i_bound.0).left_lower (omega (arith, c.kind.ensures, c.if-kind-eq-PROP_KIND.false)) in
    omega (arith, lower, c.left.ensures, c.requires.i_bound, c.requires.valid.sized.rows_fit)

pub returns : goal.returns
returns c = record { value = (λ _. c.word_at.ensures.0 ∙ ap (word_in c.args.sets.now) c.left.ensures); value_2 = λ e. absurd (omega (arith, c.kind.ensures, c.if-kind-eq-PROP_KIND.false)) }
