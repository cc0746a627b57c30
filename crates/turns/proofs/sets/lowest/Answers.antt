-- `lowest` is the count of a word's trailing zeros that the machine has.
use native.Mathlib.Omega.{arith}
use lib.Count.{trailing_le}
use Rattle.block.proofs.Ones.{trailing_lowest}
use Rattle.turns.proofs.sets.lowest.Goals as goal

pub overflow_cast-result-2 : goal.overflow_cast-result-2
overflow_cast-result-2 c = omega (arith, trailing_le 32 c.args.set)

pub returns : goal.returns
returns c = trailing_lowest 32 c.args.set c.requires.0 c.requires.1
