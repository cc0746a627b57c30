-- `rbatl_move` hands over the answer of the team's move call.
use mir.Syntax.{w32}
use mathlib.Core.Path.{◌∙◌}
use mir.Facts.{to_z-of_z}
use native.Mathlib.Omega.{arith}
use Rattle.rbatl.proofs.Values.{small_answer}
use Rattle.rbatl.proofs.rbatl_move.Goals as goal

pub code-requires : goal.code-requires
code-requires c = small_answer c.coalition_move.ensures.move_call.answer (λ n h. omega (arith, h.small))

pub returns : goal.returns
returns c = record { move_answer = (c.coalition_move.result, c.coalition_move.ensures.move_call, to_z-of_z {w = w32} (record { sfits = c.code.type_inv }) ∙ c.code.ensures); demand3 = c.coalition_move.ensures.demand3 }
