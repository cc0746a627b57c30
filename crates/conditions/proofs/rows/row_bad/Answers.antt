-- `row_bad` decides number 5 of one row.
use native.Mathlib.Omega.{arith}
use Rattle.block.specs.Layout.{until_kind}
use Rattle.block.specs.Check.{kind_unknown, operands, coalition}
use Rattle.block.proofs.Decide as D
use Rattle.conditions.proofs.rows.row_bad.Goals.{then-k-gt-UNTIL_KIND, else-k-gt-UNTIL_KIND}
use Rattle.conditions.proofs.rows.row_bad.Goals as goal

pub returns-then-operands_bad : goal.returns-then-operands_bad
returns-then-operands_bad c = D.yes c.if-operands_bad.true
    (elim c.if-k-gt-UNTIL_KIND.branch [
      | then-k-gt-UNTIL_KIND w ↦ kind_unknown (omega arith)
      | else-k-gt-UNTIL_KIND w ↦ operands (D.truth w.operands_bad.ensures cc)
    ])

pub returns-then-strategic : goal.returns-then-strategic
returns-then-strategic c = D.same c.team_bad.ensures
    (coalition (rw (← c.kind-k.ensures) (D.truth c.strategic.ensures c.if-strategic.true)))
    (λ x.
    elim c.if-k-gt-UNTIL_KIND.branch [
      | then-k-gt-UNTIL_KIND w ↦ absurd (D.falsity (D.less until_kind c.kind-k.result) (cc) w.if-k-gt-UNTIL_KIND.true)
      | else-k-gt-UNTIL_KIND w ↦ elim x [
        | kind_unknown h ↦ absurd (omega arith)
        | operands h ↦ absurd (D.falsity w.operands_bad.ensures (cc) h)
        | coalition s h ↦ h
      ]
    ])

pub returns-else-strategic : goal.returns-else-strategic
returns-else-strategic c = D.no c.if-strategic.false
    (λ x.
    elim c.if-k-gt-UNTIL_KIND.branch [
      | then-k-gt-UNTIL_KIND w ↦ D.falsity (D.less until_kind c.kind-k.result) (cc) w.if-k-gt-UNTIL_KIND.true
      | else-k-gt-UNTIL_KIND w ↦ elim x [
        | kind_unknown h ↦ absurd (omega arith)
        | operands h ↦ D.falsity w.operands_bad.ensures (cc) h
        | coalition s h ↦ D.falsity c.strategic.ensures c.if-strategic.false (rw c.kind-k.ensures s)
      ]
    ])
