-- `rbatl_label` hands over what labelling answers.
use native.Mathlib.Omega.{arith}
use Rattle.rbatl.proofs.Values.{small_answer}
use Rattle.rbatl.proofs.rbatl_label.Goals as goal

pub code-requires : goal.code-requires
code-requires c = small_answer c.label.ensures.answer (λ n h. omega (arith, h.0))
