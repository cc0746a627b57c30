-- `is_digit` tells the bytes of the digits.
use native.Mathlib.Omega.{arith}
use Rattle.block.specs.Inner.Tests.{holds, fails}
use Rattle.tokens.proofs.numeral.is_digit.Goals as goal

pub returns-in-48-to-57 : goal.returns-in-48-to-57
returns-in-48-to-57 c = holds (omega arith)

pub returns-in_default : goal.returns-in_default
returns-in_default c = fails (λ x. omega arith)

pub returns-in_default-2 : goal.returns-in_default-2
returns-in_default-2 c = fails (λ x. omega arith)
