-- `team` reads the team and the bounds of a strategic row.
use mathlib.Core.Path.{refl, sym, ◌∙◌}
use Rattle.text.specs.Format.{Format}
use Rattle.text.specs.Job as J
use Rattle.text.proofs.KindTests.{strategic_is}
use Rattle.scan.proofs.Reading.{stopped}
use Rattle.reader.proofs.rows.team.Goals as goal

pub returns-then-not-strategic-clause-job_value : goal.returns-then-not-strategic-clause-job_value
unfolding J.team_fields
returns-then-not-strategic-clause-job_value c = rw (sym (strategic_is c.strategic.ensures) ∙ c.if-not-strategic.true) (λ f. refl)

pub returns-in_err-team-clause-job_value : goal.returns-in_err-team-clause-job_value
unfolding J.team_fields
returns-in_err-team-clause-job_value c =
    let last : Format → Format = λ f. J.bound_fields c.args.i c.args.z.resources 0 f in
    rw (sym (strategic_is c.strategic.ensures) ∙ c.if-not-strategic.false, ← c.masks.ensures.0)
    (λ f. c.in_err-team.ensures.by_index (λ t. last f) ∙ stopped _ _ _ _ c.from_residual.ensures.1)

pub returns-clause-job_value : goal.returns-clause-job_value
unfolding J.team_fields
returns-clause-job_value c =
    let last : Format → Format = λ f. J.bound_fields c.args.i c.args.z.resources 0 f in
    rw (sym (strategic_is c.strategic.ensures) ∙ c.if-not-strategic.false, ← c.masks.ensures.0)
    (λ f. c.in_ok-team.ensures.by_index (λ t. last f) ∙ c.bounds.ensures.job_value f)
