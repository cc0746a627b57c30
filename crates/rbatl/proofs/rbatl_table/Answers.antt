-- `rbatl_table` hands over what the table call answers.
use native.Mathlib.Omega.{arith}
use Rattle.rbatl.proofs.Values.{small_answer}
use Rattle.rbatl.proofs.rbatl_table.Goals as goal

pub code-requires : goal.code-requires
code-requires c = small_answer c.table.ensures.table_call.answer (λ n h. omega (arith, h.0))
