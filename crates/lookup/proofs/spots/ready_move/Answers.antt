-- `ready_move` finds the move of the position where it stands.
use mathlib.Core.Path.{sym, subst}
use native.Mathlib.Omega.{arith}
use Rattle.block.proofs.Refusals.{turned_down, past, answered}
use Rattle.game.specs.Position.{position}
use Rattle.game.specs.Model.{arena_of}
use Rattle.game.specs.Demand.{RowMove}
use Rattle.choice.proofs.Moving.{places_of}
use Rattle.ways.proofs.Placing.{stocks_below}
use Rattle.lookup.proofs.spots.ready_move.Goals as goal

pub spot_of-spot-requires : goal.spot_of-spot-requires
spot_of-spot-requires c = record { valid = c.requires.made_ready.valid; i_bound = (c.requires.made_ready.inside, c.requires.made_ready.strategic, c.requires.block_in_bounds.0); position = c.requires.block_in_bounds.1 }

pub spot_move-m-requires : goal.spot_move-m-requires
spot_move-m-requires c = record {
  made_ready = c.requires.made_ready;
  state_bound = (
    omega (arith, c.spot_of-spot.ensures.state, c.spot_of-spot.ensures.fits.0),
    omega (arith, stocks_below (arena_of c.args.block.now c.args.i) (position c.args.s c.args.stocks.now) c.spot_of-spot.ensures.fits, c.spot_of-spot.ensures.place, places_of c.args.block.now c.args.ready.row c.args.i c.requires.made_ready.ranked.sought.playable c.requires.made_ready.ranked.index_is),
  );
}

pub returns-then-m : goal.returns-then-m
returns-then-m c = turned_down ((c.spot_move-m.ensures (position c.args.s c.args.stocks.now) c.spot_of-spot.ensures).none c.if-m.true)

pub returns : goal.returns
returns c = let p = position c.args.s c.args.stocks.now in
    let found = subst (RowMove c.args.block.now c.args.i p) (sym c.from.ensures) ((c.spot_move-m.ensures p c.spot_of-spot.ensures).move c.if-m.false) in
    past (λ loses. loses found.wins) (answered found)
