-- `rehearse` refuses first, then rehearses, and clears the room.
use mathlib.Core.Path.{refl}
use native.Mathlib.Omega.{arith}
use lib.ListN.{length}
use Rattle.block.proofs.Refusals.{refused, passed, none_holds, room_cleared, not_length}
use Rattle.game.proofs.Blocks.Rowwise.{row_demanded}
use Rattle.turns.proofs.Bytes.{cleared}
use Rattle.rehearsal.specs.Rehearsal.{play_rules}
use Rattle.rehearsal.proofs.Calls.{rehearsal_admitted}
use Rattle.rehearsal.proofs.call.rehearse.Goals as goal

pub rehearse_row-answer-requires : goal.rehearse_row-answer-requires
rehearse_row-answer-requires c =
    let (valid, (inside, long)) = rehearsal_admitted c.args.block.now c.args.i c.args.s (length c.args.script.now) (length c.args.report.now) (length c.args.room.now) (none_holds (rw c.in-Ok.is at c.turned_down.ensures)) in
    record { valid = valid; i_bound = inside; script_len_bound = long }

pub returns-in-Ok : goal.returns-in-Ok
returns-in-Ok c = record {
  rehearsal_call = record {
    answer = passed (rw c.in-Ok.is at c.turned_down.ensures) c.rehearse_row-answer.ensures.answers;
    kept = c.rehearse_row-answer.ensures.kept.0;
    room_after = room_cleared (not_length c.rehearse_row-answer.ensures.answers (omega arith, (omega arith, tt)))
        (cleared c.rehearse_row-answer.new.room c.zeros.new.buffer (length c.args.room.now) c.zeros.ensures c.rehearse_row-answer.ensures.kept.1);
  };
  demand3 = row_demanded c.args.block.now c.args.i;
}

pub returns-in-Err : goal.returns-in-Err
returns-in-Err c = record {
  rehearsal_call = record {
    answer = refused (play_rules c.args.block.now c.args.i c.args.s c.args.script.now) (rw c.in-Err.is at c.turned_down.ensures);
    kept = refl;
    room_after = c.leave.ensures;
  };
  demand3 = row_demanded c.args.block.now c.args.i;
}
