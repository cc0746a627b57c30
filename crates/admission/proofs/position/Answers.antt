-- `position` admits the row, and looks whether there is such a position.
use mathlib.Core.List.{[], ◌∷◌}
use mathlib.Core.Path.{refl}
use native.Mathlib.Omega.{arith}
use Rattle.block.specs.Refusal.{◌when◌}
use Rattle.block.specs.declared.refusal.Refusal.TheVariants as refusal
use Rattle.block.proofs.Decide as D
use Rattle.block.proofs.Refusals.{turned_down, past, answered, handed_on, passed, none_holds}
use Rattle.admission.proofs.Admitting.{row_admitted}
use Rattle.admission.specs.Admission.{NoPosition}
use Rattle.admission.proofs.position.Goals as goal

pub no_position-requires : goal.no_position-requires
no_position-requires c = let (valid, row) = row_admitted c.args.block.now c.args.i (none_holds c.in_ok-row.ensures) in
    record { valid = valid; i_bound = (row.0, row.1, omega (arith, c.requires)) }

pub returns-then-no_position : goal.returns-then-no_position
returns-then-no_position c = passed c.in_ok-row.ensures (turned_down (D.truth c.no_position.ensures c.if-no_position.true))

pub returns : goal.returns
returns c = passed c.in_ok-row.ensures (past (D.falsity c.no_position.ensures c.if-no_position.false) (answered refl))

pub returns-in_err-row : goal.returns-in_err-row
returns-in_err-row c = handed_on (refusal.Position when NoPosition c.args.block.now c.args.i c.args.s c.args.stocks.now ∷ []) c.from_residual.ensures.1 c.in_err-row.ensures
