-- `answer_at` looks whether there is such a position, and finds its move.
use mathlib.Core.List.{List}
use mathlib.Core.Path.{◌≡◌, refl, sym}
use Prim.Native.Nat.{ℕ, suc, ◌+◌, ◌*◌, ◌-◌}
use native.Mathlib.Omega.{arith}
use lib.ListN.{take, drop}
use Rattle.block.proofs.Decide as D
use Rattle.block.proofs.Refusals.{turned_down, past}
use Rattle.sheets.specs.Worksheet.{stocks_in}
use Rattle.admission.proofs.Admitting.{placed}
use Rattle.sheets.proofs.answer_at.Goals as goal

-- the stocks that are looked at are those of the position
stocks : (k : ℕ) (list : List ℕ) → take (3 * k + 3 - (3 * k + 1)) (drop (3 * k + 1) list) ≡ stocks_in list k
stocks k list = let two : 3 * k + 3 - (3 * k + 1) ≡ 2 = omega arith in let first : 3 * k + 1 ≡ suc (3 * k) = omega arith in rw two (rw first refl)

pub returns-then-no_position : goal.returns-then-no_position
returns-then-no_position c = record { answer = rw (sym c.from-s.ensures) (rw (sym (stocks c.args.k c.args.list.now)) (turned_down (D.truth c.no_position.ensures c.if-no_position.true))) }

pub ready_move-requires : goal.ready_move-requires
ready_move-requires c = record { made_ready = c.requires.made_ready; block_in_bounds = (omega (arith, c.requires.made_ready.valid.sized.resources_fit), placed c.args.block.now c.requires.made_ready.valid c.args.i _ _ (D.falsity c.no_position.ensures c.if-no_position.false)) }

pub returns : goal.returns
returns c = record { answer = rw (sym c.from-s.ensures) (rw (sym (stocks c.args.k c.args.list.now)) (past (D.falsity c.no_position.ensures c.if-no_position.false) c.ready_move.ensures)) }
