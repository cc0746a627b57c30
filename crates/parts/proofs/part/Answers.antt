-- `part` looks the entry up.
use mathlib.Core.Path.{◌≡◌, ◌∙◌, ap}
use Prim.Native.Nat.{ℕ, ◌+◌, ◌*◌, ◌%◌}
use native.Mathlib.Omega.{arith}
use lib.ListN.{get_or}
use Rattle.game.specs.Inner.Parts.{part_of}
use Rattle.game.specs.Model.{bit}
use Rattle.parts.proofs.Tables.{part_lowest}
use Rattle.parts.proofs.part.Goals as goal

-- the entry, as a team's and a joint action's lowest digits number it
entry : (c : goal.After-result-1) → get_or c.args.parts.now (c.args.team % 8 * 64 + c.args.joint % 64) 0 ≡ part_of (bit c.args.team) c.args.joint
entry c =
    let place : c.args.team % 8 * 64 + c.args.joint % 64 ≡ 64 * (c.args.team % 8) + c.args.joint % 64 = omega arith in
    ap (λ (k : ℕ). get_or c.args.parts.now k 0) place
    ∙ c.requires.entry (c.args.team % 8) (c.args.joint % 64) (omega arith) (omega arith) ∙ part_lowest c.args.team c.args.joint

pub returns : goal.returns
returns c = entry c
