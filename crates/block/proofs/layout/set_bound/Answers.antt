-- `set_bound` stores a byte at the bound's place.
use mathlib.Core.Path.{ap}
use Prim.Native.Nat.{ℕ}
use lib.ListN.{set}
use Rattle.block.proofs.layout.set_bound.Goals as goal

pub returns : goal.returns
returns c = ap (λ (p : ℕ). set c.args.block.now p c.args.v) c.field_place.ensures.0
