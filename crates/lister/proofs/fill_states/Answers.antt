-- `fill_states` refuses first, and then lists the states and clears the room.
use mathlib.Core.List.{[]}
use mathlib.Core.Path.{refl}
use lib.ListN.{length}
use Rattle.block.proofs.Refusals.{no_refusal, answered, refused, passed, none_holds, room_cleared}
use Rattle.turns.proofs.Bytes.{cleared}
use Rattle.lister.proofs.Calls.{states_admitted}
use Rattle.lister.proofs.fill_states.Goals as goal

pub list_row-n-requires : goal.list_row-n-requires
list_row-n-requires c = let (valid, inside) = states_admitted c.args.block.now c.args.i (length c.args.list.now) (length c.args.room.now) (none_holds (rw c.in-Ok.is at c.turned_down.ensures)) in record { valid = valid; i_bound = inside }

pub returns-in-Ok : goal.returns-in-Ok
returns-in-Ok c = record {
  answer = passed (rw c.in-Ok.is at c.turned_down.ensures) (answered c.list_row-n.ensures.0);
  kept = tt;
  room_after = room_cleared no_refusal (cleared c.list_row-n.new.room c.zeros.new.buffer (length c.args.room.now) c.zeros.ensures c.list_row-n.auto.room);
}

pub returns-in-Err : goal.returns-in-Err
returns-in-Err c = record {
  answer = refused [] (rw c.in-Err.is at c.turned_down.ensures);
  kept = refl;
  room_after = c.leave.ensures;
}
