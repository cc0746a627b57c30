-- `first_value` goes by the side.
use mathlib.Core.Path.{◌≡◌, refl}
use Prim.Native.Nat.{ℕ}
use native.Mathlib.Omega.{arith}
use Rattle.sweeps.proofs.value.first_value.Goals as goal

pub overflow_sub-result : goal.overflow_sub-result
overflow_sub-result c = omega (arith, c.requires)

pub returns-then-most : goal.returns-then-most
returns-then-most c = ((λ _. omega (arith, c.requires)), (λ e. let z : ◌≡◌ {A = ℕ} 0 1 = cc c.if-most.true in absurd (omega arith)), omega (arith, c.requires))

pub returns : goal.returns
returns c = ((λ e. let z : ◌≡◌ {A = ℕ} 0 1 = cc c.if-most.false in absurd (omega arith)), (λ _. refl), omega arith)
