-- `word` is the move, or 256 and the refusal's number.
use mathlib.Core.Path.{ap}
use native.Mathlib.Omega.{arith}
use Rattle.sheets.specs.Worksheet.{word_for}
use Rattle.sheets.proofs.word.Goals as goal

pub returns-in-Err : goal.returns-in-Err
returns-in-Err c = omega (arith, c.number.ensures, c.from.ensures, ap word_for c.in-Err.is)
