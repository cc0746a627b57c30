-- `rbatl_worksheet` hands over the answer of the worksheet call.
use mir.Syntax.{w32}
use mathlib.Core.Path.{◌∙◌}
use mir.Facts.{to_z-of_z}
use native.Mathlib.Omega.{arith}
use Rattle.rbatl.proofs.Values.{small_answer}
use Rattle.rbatl.proofs.rbatl_worksheet.Goals as goal

pub code-requires : goal.code-requires
code-requires c = small_answer c.worksheet.ensures.sheet_call.answer (λ n (zero, _). omega arith)

pub returns : goal.returns
returns c = record { sheet_answer = (c.worksheet.result, c.worksheet.ensures.sheet_call, to_z-of_z {w = w32} (record { sfits = c.code.type_inv }) ∙ c.code.ensures); demand3 = c.worksheet.ensures.demand3 }
