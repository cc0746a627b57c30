-- `table` refuses first, and then fills the table.
use mathlib.Core.List.{[]}
use mathlib.Core.Path.{refl}
use Rattle.block.proofs.Refusals.{untouched, turned_down, past, answered, handed_on, passed, none_holds}
use Rattle.game.proofs.Blocks.Rowwise.{row_demanded}
use Rattle.admission.proofs.Admitting.{row_admitted}
use Rattle.solver.proofs.table.table.Goals as goal

pub returns-then-ranks-ne-ROOM_BYTES : goal.returns-then-ranks-ne-ROOM_BYTES
returns-then-ranks-ne-ROOM_BYTES c = record { table_call = record { answer = turned_down c.if-ranks-ne-ROOM_BYTES.true; ranks_kept = refl; moves_kept = refl }; demand3 = row_demanded c.args.block.now c.args.i }

pub returns-then-moves-ne-MOVES_BYTES : goal.returns-then-moves-ne-MOVES_BYTES
returns-then-moves-ne-MOVES_BYTES c = record { table_call = record { answer = past (λ h. h c.if-ranks-ne-ROOM_BYTES.false) (turned_down c.if-moves-ne-MOVES_BYTES.true); ranks_kept = refl; moves_kept = refl }; demand3 = row_demanded c.args.block.now c.args.i }

pub fill_table-requires : goal.fill_table-requires
fill_table-requires c = let (valid, row) = row_admitted c.args.block.now c.args.i (none_holds c.in_ok-row.ensures) in
    record { valid = valid; i_bound = row; ranks_len = (c.if-ranks-ne-ROOM_BYTES.false, c.if-moves-ne-MOVES_BYTES.false) }

pub returns : goal.returns
returns c = record {
  table_call = record {
    answer = past (λ h. h c.if-ranks-ne-ROOM_BYTES.false) (past (λ h. h c.if-moves-ne-MOVES_BYTES.false) (passed c.in_ok-row.ensures (answered (refl, c.fill_table.ensures))));
    ranks_kept = tt;
    moves_kept = tt;
  };
  demand3 = row_demanded c.args.block.now c.args.i;
}

pub returns-in_err-row : goal.returns-in_err-row
returns-in_err-row c = record { table_call = record { answer = past (λ h. h c.if-ranks-ne-ROOM_BYTES.false) (past (λ h. h c.if-moves-ne-MOVES_BYTES.false) (handed_on [] c.from_residual.ensures.1 c.in_err-row.ensures)); ranks_kept = untouched _ _; moves_kept = untouched _ _ }; demand3 = row_demanded c.args.block.now c.args.i }
