-- `any_row` checks the block, and looks whether the row exists.
use mathlib.Core.List.{[], ◌∷◌}
use mathlib.Core.Path.{refl}
use Prim.Native.Nat.{◌≤◌}
use native.Mathlib.Omega.{arith}
use Rattle.block.specs.Layout as L
use Rattle.block.specs.Refusal.{◌when◌}
use Rattle.block.specs.declared.refusal.Refusal.TheVariants.{RowChoice}
use Rattle.block.proofs.Passing.{passing}
use Rattle.block.proofs.Refusals.{turned_down, past, answered, handed_on, passed}
use Rattle.admission.proofs.any_row.Goals as goal

pub rows-requires : goal.rows-requires
rows-requires c = (passing {b = c.args.block.now} c.in_ok-check.ensures).sized.bytes

pub returns-then-rows-i : goal.returns-then-rows-i
returns-then-rows-i c = passed c.in_ok-check.ensures (turned_down (omega (arith, c.rows.ensures, c.if-rows-i.true)))

pub returns : goal.returns
returns c = passed c.in_ok-check.ensures (past (λ outside. omega (arith, c.rows.ensures, c.if-rows-i.false)) (answered refl))

pub returns-in_err-check : goal.returns-in_err-check
returns-in_err-check c = handed_on (RowChoice when (L.rows c.args.block.now ≤ c.args.i) ∷ []) c.from_residual.ensures.1 c.in_err-check.ensures
