-- `no_position` looks at the state, and then for a stock that does not fit.
use mathlib.Core.Path.{refl}
use native.Mathlib.Omega.{arith}
use Rattle.std.proofs.Common.{rules}
use Rattle.std.proofs.lemmas.Iterator.{serves_from_Range}
use Rattle.block.proofs.Chains.{any_below}
use Rattle.block.proofs.Decide as D
use Rattle.admission.specs.Admission.{no_state, no_stock}
use Rattle.admission.proofs.no_position.Goals as goal

pub any-requires-clause-callable : goal.any-requires-clause-callable
any-requires-clause-callable c = serves_from_Range (λ j q k. search rules) (λ j low high. search rules)

pub returns-then-states-s : goal.returns-then-states-s
returns-then-states-s c = D.same (D.at_most c.states.result c.args.s) (λ h. no_state (omega arith)) (λ x. c.if-states-s.true)

pub returns-else-states-s : goal.returns-else-states-s
returns-else-states-s c = D.same (any_below (λ j b q h k. search rules) c.any.ensures.ran refl refl) no_stock
    (λ x.
    elim x [
      | no_state l ↦ absurd (omega arith)
      | no_stock k ↦ k
    ])
