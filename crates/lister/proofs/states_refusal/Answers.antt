-- `states_refusal` tries what the lister tries, and leaves the room as it does.
use mathlib.Core.List.{[]}
use mathlib.Core.Path.{refl}
use Rattle.block.proofs.Zeros.{cleared}
use Rattle.block.proofs.Refusals.{no_refusal, answered, refused, passed, room_cleared}
use Rattle.lister.proofs.states_refusal.Goals as goal

pub returns-in-Ok : goal.returns-in-Ok
returns-in-Ok c = record {
  answer = passed (rw c.in-Ok.is at c.turned_down.ensures) (answered refl);
  room_after = room_cleared no_refusal (cleared c.args.room.now c.zeros.ensures);
}

pub returns-in-Err : goal.returns-in-Err
returns-in-Err c = record { answer = refused [] (rw c.in-Err.is at c.turned_down.ensures); room_after = c.leave.ensures }
