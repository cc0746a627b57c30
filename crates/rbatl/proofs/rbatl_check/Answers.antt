-- `rbatl_check` hands over what the check answers.
use native.Mathlib.Omega.{arith}
use Rattle.rbatl.proofs.Values.{small_answer}
use Rattle.rbatl.proofs.rbatl_check.Goals as goal

pub code-requires : goal.code-requires
code-requires c = small_answer c.check.ensures (λ n zero. omega arith)
