-- `names_right` looks at the kind.
use mathlib.Core.Path.{subst}
use Prim.Native.Nat.{ℕ}
use Rattle.block.specs.Inner.Tests.{Decides}
use Rattle.block.specs.Layout.{Binary}
use Rattle.solver.proofs.needs.names_right.Goals as goal

pub returns : goal.returns
returns c = subst (λ (k : ℕ). Decides (Binary k) c.binary.result) c.kind.ensures c.binary.ensures
