-- `go_actions` goes past the beginning of a joint action's line in edition 1.
use mathlib.Core.Path.{refl, ◌∙◌}
use Rattle.scan.proofs.Reading.{stopped}
use Rattle.text.specs.Job as J
use Rattle.reader.proofs.gos.go_actions.Goals as goal

pub returns-in_err-go_word-in-First-clause-b_value : goal.returns-in_err-go_word-in-First-clause-b_value
unfolding J.go_actions
returns-in_err-go_word-in-First-clause-b_value c =
    rw c.in-First.is (λ f b. c.in_err-go_word-in-First.ensures.b_value (J.joint_fields c.args.joint c.args.z.agents 0 f) b ∙ stopped _ _ _ _ c.from_residual.ensures.1)

pub returns-in_ok-go_word-in-First-clause-b_value : goal.returns-in_ok-go_word-in-First-clause-b_value
unfolding J.go_actions
returns-in_ok-go_word-in-First-clause-b_value c =
    rw c.in-First.is (λ f b. c.in_ok-go_word-in-First.ensures.b_value (J.joint_fields c.args.joint c.args.z.agents 0 f) b ∙ c.joint_fields.ensures.b_value f b)

pub returns-in-Second-clause-b_value : goal.returns-in-Second-clause-b_value
unfolding J.go_actions
returns-in-Second-clause-b_value c = rw c.in-Second.is (λ f b. refl)
