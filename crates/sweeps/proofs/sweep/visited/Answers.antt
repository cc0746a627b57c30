-- `visited` counts from the first state or from the last.
use mathlib.Core.Bool.{Bool}
use mathlib.Core.Path.{◌≡◌, refl, sym, subst}
use Prim.Native.Nat.{◌-◌}
use native.Mathlib.Omega.{arith}
use Rattle.sweeps.specs.Sweeps.{visit}
use Rattle.sweeps.proofs.sweep.visited.Goals as goal

pub overflow_sub-result : goal.overflow_sub-result
overflow_sub-result c = omega (arith, c.requires)

pub overflow_sub-result-then-back : goal.overflow_sub-result-then-back
overflow_sub-result-then-back c = omega (arith, c.requires)

pub returns-then-back : goal.returns-then-back
returns-then-back c = subst (λ (t : Bool). (c.args.n - 1 - c.args.k) ≡ visit t c.args.n c.args.k) (sym c.if-back.true) refl

pub returns : goal.returns
returns c = subst (λ (t : Bool). c.args.k ≡ visit t c.args.n c.args.k) (sym c.if-back.false) refl
