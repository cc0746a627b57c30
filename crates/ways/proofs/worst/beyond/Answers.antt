-- `beyond` compares two numbers.
use mathlib.Core.Bool.{Bool}
use mathlib.Core.Path.{sym, subst}
use lib.Dec.{leb}
use Rattle.block.specs.Inner.Tests.{Decides}
use Rattle.block.proofs.Decide as D
use Rattle.ways.specs.Extremes.{Beyond}
use Rattle.ways.proofs.worst.beyond.Goals as goal

pub returns-then-most : goal.returns-then-most
returns-then-most c = subst (λ (t : Bool). Decides (Beyond t c.args.x c.args.v) (leb c.args.x c.args.v)) (sym c.if-most.true) (D.at_most c.args.x c.args.v)

pub returns-else-most : goal.returns-else-most
returns-else-most c = subst (λ (t : Bool). Decides (Beyond t c.args.x c.args.v) (leb c.args.v c.args.x)) (sym c.if-most.false) (D.at_most c.args.v c.args.x)
