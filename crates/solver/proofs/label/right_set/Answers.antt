-- `right_set` reads the word of a lower row.
use mathlib.Core.Path.{refl, ◌∙◌, ap}
use native.Mathlib.Omega.{arith}
use Rattle.block.proofs.Decide as D
use Rattle.turns.specs.Buffers.{word_in}
use Rattle.solver.proofs.label.right_set.Goals as goal

pub word_at-requires : goal.word_at-requires
word_at-requires c = let lower = (c.requires.valid.row_fits c.args.i c.requires.i_bound.0).right_lower (D.truth c.names_right.ensures c.if-names_right.true) in
    omega (arith, lower, c.right.ensures, c.requires.i_bound, c.requires.valid.sized.rows_fit)

pub returns-then-names_right : goal.returns-then-names_right
returns-then-names_right c = record { value = (λ _. c.word_at.ensures.0 ∙ ap (word_in c.args.sets.now) c.right.ensures); value_2 = λ none. absurd (none (D.truth c.names_right.ensures c.if-names_right.true)) }

pub returns : goal.returns
returns c = record { value = (λ binary. absurd (D.falsity c.names_right.ensures c.if-names_right.false binary)); value_2 = λ _. refl }
