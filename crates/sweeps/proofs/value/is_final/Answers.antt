-- `is_final` goes by the side.
use mathlib.Core.Bool.{Bool}
use mathlib.Core.Path.{sym, subst}
use Prim.Native.Nat.{◌+◌}
use native.Mathlib.Omega.{arith}
use lib.Dec.{eqb, leb}
use Rattle.block.specs.Inner.Tests.{Decides}
use Rattle.block.proofs.Decide as D
use Rattle.sweeps.specs.Values.{Final}
use Rattle.sweeps.proofs.value.is_final.Goals as goal

pub returns-then-most : goal.returns-then-most
returns-then-most c = subst (λ (t : Bool). Decides (Final t c.args.rank c.args.v) (eqb c.args.v 0)) (sym c.if-most.true) (D.equal c.args.v 0)

pub overflow_add-result : goal.overflow_add-result
overflow_add-result c = record { fits = omega (arith, c.requires) }

pub returns : goal.returns
returns c = subst (λ (t : Bool). Decides (Final t c.args.rank c.args.v) (leb c.args.rank (c.args.v + 1))) (sym c.if-most.false) (D.at_most c.args.rank (c.args.v + 1))
