-- `count` is the count of a word's bits that the machine has.
use native.Mathlib.Omega.{arith}
use lib.Count.{ones-le}
use Rattle.turns.proofs.sets.count.Goals as goal

pub overflow_cast-result-2 : goal.overflow_cast-result-2
overflow_cast-result-2 c = omega (arith, ones-le 32 c.args.set c.requires)
