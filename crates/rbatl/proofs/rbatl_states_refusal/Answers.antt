-- `rbatl_states_refusal` hands over the refusal, or 0.
use native.Mathlib.Omega.{arith}
use Rattle.rbatl.proofs.Values.{small_answer}
use Rattle.rbatl.proofs.rbatl_states_refusal.Goals as goal

pub code-requires : goal.code-requires
code-requires c = small_answer c.states_refusal.ensures.answer (λ n zero. omega arith)
