-- `cost` is the signed number of the byte at its place.
use mathlib.Core.Path.{◌∙◌, ap}
use Prim.Native.Nat.{ℕ}
use native.Mathlib.Omega.{arith}
use lib.IntN.{ℤ}
use mir.Syntax.{w32}
use mir.Val.{to_z, of_z}
use Rattle.block.specs.Layout as L
use Rattle.block.proofs.Signed.{signed_held}
use Rattle.block.proofs.layout.cost.Goals as goal

pub returns : goal.returns
returns c = ap (λ (z : ℤ). to_z w32 (of_z w32 z)) c.signed.ensures
    ∙ signed_held (L.byte_at c.args.block.now c.cost_place-p.result) (omega (arith, c.shared_slice_known-2-1.given c.cost_place-p.result))
    ∙ ap (λ (p : ℕ). L.signed (L.byte_at c.args.block.now p)) c.cost_place-p.ensures.0
