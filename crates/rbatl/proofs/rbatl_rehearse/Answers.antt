-- `rbatl_rehearse` hands over the answer of the rehearsal call.
use mir.Syntax.{w32}
use mathlib.Core.Path.{◌∙◌}
use mir.Facts.{to_z-of_z}
use native.Mathlib.Omega.{arith}
use Rattle.rbatl.proofs.Values.{small_answer}
use Rattle.rbatl.proofs.rbatl_rehearse.Goals as goal

pub code-requires : goal.code-requires
code-requires c = small_answer c.rehearse.ensures.rehearsal_call.answer (λ n (zero, _). omega arith)

pub returns : goal.returns
returns c = record { rehearsal_answer = (c.rehearse.result, c.rehearse.ensures.rehearsal_call, to_z-of_z {w = w32} (record { sfits = c.code.type_inv }) ∙ c.code.ensures); demand3 = c.rehearse.ensures.demand3 }
