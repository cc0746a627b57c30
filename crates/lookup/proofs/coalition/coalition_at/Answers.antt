-- `coalition_at` makes the row ready and finds the move.
use mathlib.Core.Path.{sym, ◌∙◌}
use Rattle.lookup.proofs.coalition.coalition_at.Goals as goal

pub ready_move-requires : goal.ready_move-requires
ready_move-requires c = record { made_ready = c.prepare-ready.ensures; block_in_bounds = (c.requires.i_bound.2, c.requires.position) }

pub returns : goal.returns
returns c = record { answers = c.ready_move.ensures; room_len_unchanged = c.prepare-ready.ensures.long ∙ sym c.requires.i_bound.3 }
