-- `row` looks at the kind of a row that exists.
use mathlib.Core.List.{[], ◌∷◌}
use mathlib.Core.Path.{refl}
use Prim.Native.Nat.{◌<◌}
use native.Mathlib.Omega.{arith}
use Rattle.block.specs.Layout as L
use Rattle.block.specs.Refusal.{◌when◌}
use Rattle.block.specs.declared.refusal.Refusal.TheVariants.{RowChoice}
use Rattle.block.proofs.Refusals.{turned_down, past, answered, handed_on, passed, none_holds}
use Rattle.admission.proofs.Admitting.{set_admitted}
use Rattle.admission.proofs.row.Goals as goal

pub kind-requires : goal.kind-requires
kind-requires c = let (valid, inside) = set_admitted c.args.block.now c.args.i (none_holds c.in_ok-any_row.ensures) in
    record { block_len = valid.sized.bytes; i_lt_max_rows = omega (arith, inside, valid.sized.rows_fit) }

pub returns-then-kind-lt-NEXT_KIND : goal.returns-then-kind-lt-NEXT_KIND
returns-then-kind-lt-NEXT_KIND c = passed c.in_ok-any_row.ensures (turned_down (omega (arith, c.kind.ensures, c.if-kind-lt-NEXT_KIND.true)))

pub returns : goal.returns
returns c = passed c.in_ok-any_row.ensures (past (λ low. omega (arith, c.kind.ensures, c.if-kind-lt-NEXT_KIND.false)) (answered refl))

pub returns-in_err-any_row : goal.returns-in_err-any_row
returns-in_err-any_row c = handed_on (RowChoice when (L.kind c.args.block.now c.args.i < L.next_kind) ∷ []) c.from_residual.ensures.1 c.in_err-any_row.ensures
