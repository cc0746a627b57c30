-- `state_line` reads the first line of a state.
use mathlib.Core.Path.{◌∙◌}
use Rattle.block.specs.declared.layout.Place.TheVariants.{Mask}
use Rattle.text.specs.Format.{Format, value}
use Rattle.text.specs.Job as J
use Rattle.scan.proofs.Reading.{stopped}
use Rattle.reader.proofs.states.state_line.Goals as goal

pub returns-in_err-named-clause-job_value : goal.returns-in_err-named-clause-job_value
unfolding J.state_line
returns-in_err-named-clause-job_value c =
    let last : Format → Format = λ f. value (J.mask_spelling c.args.z) (Mask c.args.s) (λ m. f) in
    λ f. c.in_err-named.ensures.text_value (J.index c.args.s (last f)) c.args.job.now ∙ stopped _ _ _ _ c.from_residual.ensures.1

pub returns-in_err-state-clause-job_value : goal.returns-in_err-state-clause-job_value
unfolding J.state_line
returns-in_err-state-clause-job_value c =
    let last : Format → Format = λ f. value (J.mask_spelling c.args.z) (Mask c.args.s) (λ m. f) in
    λ f. c.in_ok-named.ensures.text_value (J.index c.args.s (last f)) c.args.job.now
    ∙ c.in_err-state.ensures.text_value (last f) c.args.job.now
    ∙ stopped _ _ _ _ c.from_residual-in_err-state.ensures.1

pub returns-in_err-mask-clause-job_value : goal.returns-in_err-mask-clause-job_value
unfolding J.state_line
returns-in_err-mask-clause-job_value c =
    let last : Format → Format = λ f. value (J.mask_spelling c.args.z) (Mask c.args.s) (λ m. f) in
    let turn = rw c.masks.ensures.0 at c.in_err-mask.ensures.by_index in
    λ f. c.in_ok-named.ensures.text_value (J.index c.args.s (last f)) c.args.job.now
    ∙ c.in_ok-state.ensures.text_value (last f) c.args.job.now
    ∙ turn (λ m. f)
    ∙ stopped _ _ _ _ c.from_residual-in_err-mask.ensures.1

pub returns-clause-job_value : goal.returns-clause-job_value
unfolding J.state_line
returns-clause-job_value c =
    let last : Format → Format = λ f. value (J.mask_spelling c.args.z) (Mask c.args.s) (λ m. f) in
    let turn = rw c.masks.ensures.0 at c.in_ok-mask.ensures.by_index in
    λ f. c.in_ok-named.ensures.text_value (J.index c.args.s (last f)) c.args.job.now ∙ c.in_ok-state.ensures.text_value (last f) c.args.job.now ∙ turn (λ m. f)
