-- `operands_bad` tells a row that names what it may not.
use mathlib.Core.Logic.{⊎_elim}
use native.Mathlib.Omega.{arith}
use Rattle.block.specs.Check.{prop_range, left_range, right_range}
use Rattle.block.proofs.Decide as D
use Rattle.conditions.proofs.rows.operands_bad.Goals as goal

pub returns-then-k-eq-PROP_KIND : goal.returns-then-k-eq-PROP_KIND
returns-then-k-eq-PROP_KIND c = D.same (D.at_most c.propositions.result c.left-l.result)
    (λ h. prop_range (omega arith) (omega arith))
    (λ x.
    elim x [
      | prop_range e h ↦ omega arith
      | left_range g h ↦ absurd (omega arith)
      | right_range t h ↦ ⊎_elim (λ e. absurd (omega arith)) (λ e. absurd (omega arith)) t
    ])

pub returns-then-i-l : goal.returns-then-i-l
returns-then-i-l c = D.same (D.at_most c.args.i c.left-l.result) (λ h. left_range (omega arith) (omega arith)) (λ x. c.if-i-l.true)

pub returns-then-binary : goal.returns-then-binary
returns-then-binary c = D.same (D.at_most c.args.i c.right.result)
    (λ h. right_range (rw (← c.kind-k.ensures) (D.truth c.binary.ensures c.if-binary.true)) (omega arith))
    (λ x.
    elim x [
      | prop_range e h ↦ absurd (omega arith)
      | left_range g h ↦ absurd (omega arith)
      | right_range t h ↦ omega arith
    ])

pub returns-else-binary : goal.returns-else-binary
returns-else-binary c = D.no c.if-binary.false
    (λ x.
    elim x [
      | prop_range e h ↦ absurd (omega arith)
      | left_range g h ↦ absurd (omega arith)
      | right_range t h ↦ D.falsity c.binary.ensures c.if-binary.false (rw c.kind-k.ensures t)
    ])
