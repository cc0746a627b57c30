-- `masks` is a power of two.
use mathlib.Core.Path.{◌≡◌}
use Prim.Native.Nat.{◌*◌, ◌%◌, ◌^◌, ◌≤◌}
use native.Mathlib.Nat.{one-mul, mod-eq_of_lt}
use native.Mathlib.Omega.{arith}
use lib.Pow.{pow_mono}
use Rattle.text.proofs.sizes.masks.Goals as goal

pub returns : goal.returns
returns c = let small : 2 ^ c.args.n ≤ 2 ^ 8 = pow_mono c.requires in
    let same : (1 * 2 ^ c.args.n) % 2 ^ 64 ≡ 2 ^ c.args.n = rw one-mul (mod-eq_of_lt (omega arith)) in
    (same, rw same small)
