-- `joint_fields` goes past the actions of a joint action, agent by agent.
use mathlib.Core.Path.{◌∙◌}
use native.Mathlib.Omega.{arith}
use Rattle.scan.proofs.Reading.{stopped}
use Rattle.reader.proofs.Progress.{reached_more, reached_stop, reached_all}
use Rattle.text.proofs.JobLoops.{joint_loop}
use Rattle.reader.proofs.gos.joint_fields.Goals as goal

pub returns-in_err-next-clause-b_value : goal.returns-in_err-next-clause-b_value
returns-in_err-next-clause-b_value c =
    let turn = rw c.digit.ensures.0 at c.in_err-next.ensures.text_value in
    λ f b. reached_stop (joint_loop _) (c.loop-a.invariant.2 b) c.loop-a-test.true (λ g. turn g b) f ∙ stopped _ _ _ _ c.from_residual.ensures.1

pub loop-a-preserved : goal.loop-a-preserved
loop-a-preserved c =
    let turn = rw c.digit.ensures.0 at c.in_ok-next.ensures.text_value in
    (c.in_ok-next.ensures.inside, omega arith, λ b. reached_more (joint_loop _) (c.loop-a.invariant.2 b) c.loop-a-test.true (λ f. turn f b))

pub returns-clause-b_value : goal.returns-clause-b_value
returns-clause-b_value c = λ f b. reached_all (joint_loop _) (c.loop-a.invariant.2 b) c.loop-a-test.false f
