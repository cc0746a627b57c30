-- `worksheet` refuses first, then fills the words, and clears the room.
use mathlib.Core.List.{[]}
use mathlib.Core.Path.{refl, ◌∙◌}
use lib.ListN.{length}
use Rattle.block.proofs.Refusals.{no_refusal, answered, refused, passed, none_holds, room_cleared}
use Rattle.game.proofs.Blocks.Rowwise.{row_demanded}
use Rattle.turns.proofs.Bytes.{cleared}
use Rattle.turns.specs.Buffers.{rank_in}
use Rattle.sheets.specs.Worksheet.{state_in, stocks_in}
use Rattle.sheets.proofs.Sheets.{sheet_admitted, single}
use Rattle.sheets.proofs.worksheet.Goals as goal

pub fill_sheet-requires : goal.fill_sheet-requires
fill_sheet-requires c = let (_, (valid, (chosen, (words, room)))) = sheet_admitted c.args.block.now c.args.i (length c.args.list.now) (length c.args.words.now) (length c.args.room.now) (none_holds (rw c.in-Ok.is at c.turned_down.ensures)) in
    record { valid = valid; i_bound = (chosen.0, chosen.1, room); words_len = words }

pub returns-in-Ok : goal.returns-in-Ok
returns-in-Ok c = let told = rw c.in-Ok.is at c.turned_down.ensures in
    let (row, (_, (_, (words, room)))) = sheet_admitted c.args.block.now c.args.i (length c.args.list.now) (length c.args.words.now) (length c.args.room.now) (none_holds told) in
    let zeros = cleared c.fill_sheet.new.room c.zeros.new.buffer (length c.args.room.now) c.zeros.ensures c.fill_sheet.ensures.1 in record {
      sheet_call = record {
        answer = passed told (answered (
          refl,
          record {
            each = λ k l.
                let (a, at, word) = c.fill_sheet.ensures.0 k l in
                single c.args.block.now c.args.i row c.args.room.now c.zeros.new.buffer room zeros (state_in c.args.list.now k) (stocks_in c.args.list.now k) a (rank_in c.fill_sheet.new.words k) at.answer word;
            long = c.fill_sheet.auto.words ∙ words;
          },
        ));
        kept = tt;
        room_after = room_cleared no_refusal zeros;
      };
      demand3 = row_demanded c.args.block.now c.args.i;
    }

pub returns-in-Err : goal.returns-in-Err
returns-in-Err c = record {
  sheet_call = record {
    answer = refused [] (rw c.in-Err.is at c.turned_down.ensures);
    kept = refl;
    room_after = c.leave.ensures;
  };
  demand3 = row_demanded c.args.block.now c.args.i;
}
