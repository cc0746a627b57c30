-- `reply` refuses first, then answers, and clears the room.
use mathlib.Core.List.{[], ◌∷◌}
use native.Mathlib.Omega.{arith}
use lib.ListN.{length}
use Rattle.block.proofs.Refusals.{turned_down, past, refused, passed, none_holds, room_left, room_cleared, not_length}
use Rattle.game.specs.Position.{position}
use Rattle.game.proofs.Blocks.Rowwise.{row_demanded}
use Rattle.turns.proofs.Bytes.{cleared}
use Rattle.lookup.specs.Calls.{answer_rules}
use Rattle.admission.proofs.Admitting.{position_admitted}
use Rattle.lookup.proofs.opponents.reply.Goals as goal

pub returns-then-room-ne-ROOM_BYTES : goal.returns-then-room-ne-ROOM_BYTES
returns-then-room-ne-ROOM_BYTES c = record { reply_call = record { answer = turned_down c.if-room-ne-ROOM_BYTES.true; room_after = room_left }; demand3 = row_demanded c.args.block.now c.args.i }

pub opponents_at-answer-requires : goal.opponents_at-answer-requires
opponents_at-answer-requires c = let (valid, (row, fits)) = position_admitted c.args.block.now c.args.i c.args.s _ (none_holds (rw c.in-Ok.is at c.position.ensures)) in
    record { valid = valid; i_bound = (row.0, row.1, omega (arith, valid.sized.resources_fit), omega (arith, c.if-room-ne-ROOM_BYTES.false)); position = fits }

pub returns-in-Ok : goal.returns-in-Ok
returns-in-Ok c = let told = rw c.in-Ok.is at c.position.ensures in
    record {
      reply_call = record {
        answer = past (λ h. h c.if-room-ne-ROOM_BYTES.false) (passed told c.opponents_at-answer.ensures.answers);
        room_after = room_cleared (not_length c.opponents_at-answer.ensures.answers (omega arith, (omega arith, tt))) (cleared c.opponents_at-answer.new.room c.zeros.new.buffer (length c.args.room.now) c.zeros.ensures c.opponents_at-answer.ensures.room_len_unchanged);
      };
      demand3 = row_demanded c.args.block.now c.args.i;
    }

pub returns-in-Err : goal.returns-in-Err
returns-in-Err c = let p = position c.args.s (c.args.stock0 ∷ c.args.stock1 ∷ []) in record {
  reply_call = record {
    answer = past (λ h. h c.if-room-ne-ROOM_BYTES.false) (refused (answer_rules c.args.block.now c.args.i p c.args.m) (rw c.in-Err.is at c.position.ensures));
    room_after = c.leave.ensures;
  };
  demand3 = row_demanded c.args.block.now c.args.i;
}
