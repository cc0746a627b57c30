-- `spot_move` finds the move that goes with the ranks.
use mathlib.Core.Path.{sym, ◌∙◌, ap, subst}
use native.Mathlib.Omega.{arith}
use Rattle.block.specs.Layout as L
use Rattle.choice.specs.Choices.{Sought}
use Rattle.lookup.proofs.Answering.{spot_moves}
use Rattle.lookup.proofs.spots.spot_move.Goals as goal

pub move_at-requires : goal.move_at-requires
move_at-requires c = record { valid = c.requires.made_ready.valid; sought = (subst (Sought c.args.block.now c.args.ready.row) (ap (L.kind c.args.block.now) c.requires.made_ready.ranked.index_is ∙ sym c.goal_of-goal.ensures) c.requires.made_ready.ranked.sought, c.requires.made_ready.ranked.listed, omega (arith, c.requires.made_ready.long)); state_bound = c.requires.state_bound }

pub returns : goal.returns
returns c = spot_moves c.requires.made_ready.valid c.args.ready.row c.requires.made_ready.ranked.sought c.args.ready.right c.args.ranks.now c.args.spot.state c.args.spot.place c.move_at.result c.move_at.ensures
    c.args.i c.requires.made_ready.ranked.index_is c.requires.made_ready.inside c.requires.made_ready.strategic c.requires.made_ready.prepared
