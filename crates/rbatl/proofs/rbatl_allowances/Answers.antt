-- `rbatl_allowances` hands over the count of allowances, or the refusal.
use native.Mathlib.Omega.{arith}
use Rattle.rbatl.proofs.Values.{small_answer}
use Rattle.rbatl.proofs.rbatl_allowances.Goals as goal

pub code-requires : goal.code-requires
code-requires c = small_answer c.allowances.ensures.answer (λ n h. omega (arith, h.fits))
