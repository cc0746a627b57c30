-- `team_bad` tells a bad team or a bad bound.
use Rattle.block.specs.Check.{team_empty, team_absent, bound_range}
use Rattle.block.proofs.Decide as D
use Rattle.conditions.proofs.rows.team_bad.Goals.{then-t-eq0, else-t-eq0}
use Rattle.conditions.proofs.rows.team_bad.Goals as goal

pub returns-then-bit_from : goal.returns-then-bit_from
returns-then-bit_from c = D.yes c.if-bit_from.true
    (elim c.if-t-eq0.branch [
      | then-t-eq0 w ↦ team_empty (rw (← c.team-t.ensures) w.if-t-eq0.true)
      | else-t-eq0 w ↦ team_absent (D.truth (rw (c.team-t.ensures, w.agents.ensures) at w.bit_from.ensures) cc)
    ])

pub returns-else-bit_from : goal.returns-else-bit_from
returns-else-bit_from c = D.same c.bounds_bad.ensures bound_range
    (λ x.
    elim c.if-t-eq0.branch [
      | then-t-eq0 w ↦ absurd (D.falsity (D.equal c.team-t.result 0) (cc) w.if-t-eq0.true)
      | else-t-eq0 w ↦ elim x [
        | team_empty h ↦ absurd (w.if-t-eq0.false (rw c.team-t.ensures h))
        | team_absent h ↦ absurd (D.falsity (rw (c.team-t.ensures, w.agents.ensures) at w.bit_from.ensures) (cc) h)
        | bound_range h ↦ h
      ]
    ])
