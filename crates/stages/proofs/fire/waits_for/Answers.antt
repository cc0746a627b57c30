-- `waits_for` goes by the side.
use mathlib.Core.Bool.{Bool, true, false}
use mathlib.Core.Path.{◌≡◌, sym, subst}
use Prim.Native.Nat.{ℕ}
use Rattle.block.specs.Inner.Tests.{Decides}
use Rattle.block.proofs.Decide as D
use Rattle.stages.specs.Stages.{Waiting}
use Rattle.stages.proofs.fire.waits_for.Goals as goal

by_side : (most : Bool) (k r : ℕ) (side t : Bool) → most ≡ side → Decides (Waiting side k r) t → Decides (Waiting most k r) t
by_side most k r side t is told = subst (λ (m : Bool). Decides (Waiting m k r) t) (sym is) told

pub returns-then-most : goal.returns-then-most
returns-then-most c = by_side _ _ _ true _ c.if-most.true (D.at_most _ _)

pub returns : goal.returns
returns c = by_side _ _ _ false _ c.if-most.false (D.equal _ _)
