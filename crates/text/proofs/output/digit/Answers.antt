-- `digit` stores a byte.
use mathlib.Core.Path.{refl}
use Prim.Native.Nat.{◌+◌}
use native.Mathlib.Omega.{arith}
use lib.Seq.{drop-set-lt}
use Rattle.text.proofs.Adding.{byte_added}
use Rattle.text.proofs.output.digit.Goals as goal

pub returns : goal.returns
returns c = (byte_added _ _ _ c.requires.0, refl, drop-set-lt (c.args.at + 1) c.args.text.now c.args.at _ (omega arith))
