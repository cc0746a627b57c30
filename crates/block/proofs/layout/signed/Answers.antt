-- `signed` takes 256 from the byte of a charge.
use mathlib.Core.Path.{◌∙◌, ap}
use Prim.Native.Nat.{◌<◌, ◌≤◌, ◌-◌}
use native.Mathlib.Omega.{arith}
use lib.IntN.{ℤ}
use mir.Syntax.{w32}
use mir.Val.{to_z, of_z}
use borrow.Author.Tests.{lt-ltb, le-ltb}
use Rattle.block.specs.Layout as L
use Rattle.block.proofs.Signed.{sub_same, sub_held, small_held, less_held}
use Rattle.block.proofs.layout.signed.Goals as goal

pub returns-then-c : goal.returns-then-c
returns-then-c c = rw (lt-ltb c.args.c 241 (omega (arith, c.if-c.true))) (small_held c.args.c (omega arith))

pub returns : goal.returns
returns c = let small : c.args.c < 256 = omega (arith, c.ranges.c) in
    let charge : L.charge_byte ≤ c.args.c = omega (arith, c.if-c.false) in
    rw (le-ltb c.args.c 241 charge)
    (ap (λ (z : ℤ). to_z w32 (of_z w32 z)) (less_held c.args.c 255 (omega arith))
    ∙ sub_held c.args.c 256 (omega arith) (omega arith)
    ∙ sub_same c.args.c 256 0 (256 - c.args.c) (omega arith))
