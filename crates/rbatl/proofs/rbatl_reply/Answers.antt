-- `rbatl_reply` hands over the answer of the reply call.
use mir.Syntax.{w32}
use mathlib.Core.Path.{◌∙◌}
use mir.Facts.{to_z-of_z}
use native.Mathlib.Omega.{arith}
use Rattle.rbatl.proofs.Values.{small_answer}
use Rattle.rbatl.proofs.rbatl_reply.Goals as goal

pub code-requires : goal.code-requires
code-requires c = small_answer c.reply.ensures.reply_call.answer (λ n h. omega (arith, h.small))

pub returns : goal.returns
returns c = record { reply_answer = (c.reply.result, c.reply.ensures.reply_call, to_z-of_z {w = w32} (record { sfits = c.code.type_inv }) ∙ c.code.ensures); demand3 = c.reply.ensures.demand3 }
