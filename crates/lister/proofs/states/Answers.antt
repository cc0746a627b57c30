-- `states` hands back the front of the list that `fill_states` fills.
use mathlib.Core.Path.{refl, sym, ap}
use Prim.Native.Nat.{ℕ}
use native.Mathlib.Omega.{arith}
use lib.ListN.{take}
use lib.Seq.{length-take-le}
use Rattle.lister.proofs.Calls.{front_fits}
use Rattle.lister.proofs.states.Goals as goal

pub slice_bounds-result-end : goal.slice_bounds-result-end
slice_bounds-result-end c = let fits = front_fits c.args.block.now c.args.i c.args.list.now c.args.room.now c.fill_states.new.list c.fill_states.new.room c.fill_states.result c.fill_states.ensures in
    sym (length-take-le _ c.fill_states.new.list (omega (arith, fits, c.front-n.ensures)))

pub returns : goal.returns
returns c = record { part_call = record { list' = c.fill_states.new.list; filled = c.fill_states.result; call = c.fill_states.ensures; front = ap (λ (n : ℕ). take n c.fill_states.new.list) c.front-n.ensures }; ref_ptr_value = refl }
