-- `label` refuses first, and then labels every row into sets that hold zeros.
use mathlib.Core.List.{List, []}
use mathlib.Core.Path.{refl, ◌∙◌, ap}
use Prim.Native.Nat.{ℕ, ◌≤◌}
use native.Mathlib.Omega.{arith}
use lib.ListN.{length, length-replicate}
use Rattle.block.specs.Layout as L
use Rattle.block.proofs.Passing.{passing}
use Rattle.block.proofs.Refusals.{no_refusal, turned_down, past, answered, refused, passed, room_left, room_cleared}
use Rattle.turns.specs.Buffers.{word_in}
use Rattle.turns.proofs.Bytes.{cleared, zero_word}
use Rattle.solver.proofs.Calls.{sets_in}
use Rattle.solver.proofs.Needing.{all_ones, all_closed}
use Rattle.solver.proofs.label.label.Goals as goal

pub returns-then-sets-ne-SETS_BYTES : goal.returns-then-sets-ne-SETS_BYTES
returns-then-sets-ne-SETS_BYTES c = record { answer = turned_down c.if-sets-ne-SETS_BYTES.true; kept = refl; room_after = room_left }

pub returns-then-room-ne-ROOM_BYTES : goal.returns-then-room-ne-ROOM_BYTES
returns-then-room-ne-ROOM_BYTES c = record { answer = past (λ h. h c.if-sets-ne-SETS_BYTES.false) (turned_down c.if-room-ne-ROOM_BYTES.true); kept = refl; room_after = room_left }

pub rows-n-requires : goal.rows-n-requires
rows-n-requires c = (passing {b = c.args.block.now} (rw c.in-Ok.is at c.check.ensures)).sized.bytes

pub label_rows-requires : goal.label_rows-requires
label_rows-requires c = let valid = passing {b = c.args.block.now} (rw c.in-Ok.is at c.check.ensures) in
    let few : c.rows-n.result ≤ L.rows c.args.block.now = omega (arith, c.rows-n.ensures) in
    record { valid = valid; n_bound = (few, omega (arith, c.zeros.auto.buffer, c.if-sets-ne-SETS_BYTES.false), length-replicate {A = ℕ} 6704 0, omega (arith, c.if-room-ne-ROOM_BYTES.false)); closed = all_closed c.args.block.now valid c.rows-n.result few }

pub returns-in-Ok : goal.returns-in-Ok
returns-in-Ok c = let first = cleared c.args.sets.now c.zeros.new.buffer 128 c.zeros.ensures c.if-sets-ne-SETS_BYTES.false in
    let told = rw c.in-Ok.is at c.check.ensures in
    let valid = passing {b = c.args.block.now} told in
    record {
      answer = past (λ h. h c.if-sets-ne-SETS_BYTES.false) (past (λ h. h c.if-room-ne-ROOM_BYTES.false) (passed told (answered (
        refl,
        sets_in c.args.block.now c.label_rows.new.sets valid
            (λ j l. c.label_rows.ensures.rows_labelled.each j (omega (arith, c.rows-n.ensures), all_ones 32 j (omega (arith, valid.sized.rows_fit))))
            (λ j l. c.label_rows.ensures.rows_labelled.others j (λ (small, _). omega (arith, c.rows-n.ensures)) ∙ ap (λ (x : List ℕ). word_in x j) first ∙ zero_word 128 j)
            (omega (arith, c.label_rows.ensures.rows_labelled.long, c.zeros.auto.buffer, c.if-sets-ne-SETS_BYTES.false)),
      ))));
      kept = tt;
      room_after = room_cleared no_refusal (cleared c.label_rows.new.ranks c.zeros-in-Ok.new.buffer (length c.args.room.now) c.zeros-in-Ok.ensures c.label_rows.ensures.ways_len_unchanged.1);
    }

pub returns-in-Err : goal.returns-in-Err
returns-in-Err c = record {
  answer = past (λ h. h c.if-sets-ne-SETS_BYTES.false) (past (λ h. h c.if-room-ne-ROOM_BYTES.false) (refused [] (rw c.in-Err.is at c.check.ensures)));
  kept = refl;
  room_after = c.leave.ensures;
}
