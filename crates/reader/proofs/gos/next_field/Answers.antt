-- `next_field` reads the next state of a joint action.
use mathlib.Core.Path.{◌∙◌}
use Rattle.scan.proofs.Reading.{stopped}
use Rattle.block.specs.declared.layout.Place.TheVariants.{Next}
use Rattle.text.specs.Format.{Format, value}
use Rattle.text.specs.Job as J
use Rattle.reader.proofs.gos.next_field.Goals as goal

pub returns-in_err-acted-clause-job_value : goal.returns-in_err-acted-clause-job_value
unfolding J.next_field
returns-in_err-acted-clause-job_value c =
    let field : Format → Format = λ f. value (J.next_spelling c.args.z c.args.counts c.args.joint) (Next c.args.s c.args.joint) (λ q. f) in
    λ f. c.in_err-acted.ensures.b_value (field f) c.args.job.now ∙ stopped _ _ _ _ c.from_residual.ensures.1

pub returns-in_err-state-clause-job_value : goal.returns-in_err-state-clause-job_value
unfolding J.next_field
returns-in_err-state-clause-job_value c =
    let field : Format → Format = λ f. value (J.next_spelling c.args.z c.args.counts c.args.joint) (Next c.args.s c.args.joint) (λ q. f) in
    let turn = rw (c.from.ensures, c.next_end.ensures.0) at c.in_err-state.ensures.by_index in
    λ f. c.in_ok-acted.ensures.b_value (field f) c.args.job.now ∙ turn (λ q. f) ∙ stopped _ _ _ _ c.from_residual-in_err-state.ensures.1

pub returns-clause-job_value : goal.returns-clause-job_value
unfolding J.next_field
returns-clause-job_value c =
    let field : Format → Format = λ f. value (J.next_spelling c.args.z c.args.counts c.args.joint) (Next c.args.s c.args.joint) (λ q. f) in
    let turn = rw (c.from.ensures, c.next_end.ensures.0) at c.in_ok-state.ensures.by_index in
    λ f. c.in_ok-acted.ensures.b_value (field f) c.args.job.now ∙ turn (λ q. f)
