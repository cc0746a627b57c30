-- `rbatl_states` hands over the count of states, or the refusal.
use native.Mathlib.Omega.{arith}
use Rattle.rbatl.proofs.Values.{small_answer}
use Rattle.rbatl.proofs.rbatl_states.Goals as goal

pub code-requires : goal.code-requires
code-requires c = small_answer c.fill_states.ensures.answer (λ n h. omega (arith, h.lists.fits))
