-- `digit` takes a digit of a joint action by the powers of 4.
use mathlib.Core.Path.{◌≡◌, refl}
use native.Mathlib.Omega.{arith}
use Rattle.block.proofs.Digits.{digit_zero}
use Rattle.block.proofs.joint.digit.Goals as goal

pub returns-in-0 : goal.returns-in-0
returns-in-0 c = rw (c.in-0.is, digit_zero) (refl, omega arith)

pub returns-in-1 : goal.returns-in-1
returns-in-1 c = rw c.in-1.is (refl, omega arith)

pub returns-in_default : goal.returns-in_default
returns-in_default c = let last : c.args.a ≡ 2 = omega arith in
    rw last (refl, omega arith)
