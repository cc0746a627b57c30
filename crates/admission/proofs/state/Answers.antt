-- `state` looks whether a row that is admitted has such a state.
use mathlib.Core.List.{[], ◌∷◌}
use mathlib.Core.Path.{refl}
use Prim.Native.Nat.{◌≤◌}
use native.Mathlib.Omega.{arith}
use Rattle.block.specs.Layout as L
use Rattle.block.specs.Refusal.{◌when◌}
use Rattle.block.specs.declared.refusal.Refusal.TheVariants.{Position}
use Rattle.block.proofs.Refusals.{turned_down, past, answered, handed_on, passed, none_holds}
use Rattle.admission.proofs.Admitting.{row_admitted}
use Rattle.admission.proofs.state.Goals as goal

pub states-requires : goal.states-requires
states-requires c = (row_admitted c.args.block.now c.args.i (none_holds c.in_ok-row.ensures)).0.sized.bytes

pub returns-then-states-s : goal.returns-then-states-s
returns-then-states-s c = passed c.in_ok-row.ensures (turned_down (omega (arith, c.states.ensures, c.if-states-s.true)))

pub returns : goal.returns
returns c = passed c.in_ok-row.ensures (past (λ outside. omega (arith, c.states.ensures, c.if-states-s.false)) (answered refl))

pub returns-in_err-row : goal.returns-in_err-row
returns-in_err-row c = handed_on (Position when (L.states c.args.block.now ≤ c.args.s) ∷ []) c.from_residual.ensures.1 c.in_err-row.ensures
