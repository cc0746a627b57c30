-- `opponents_at` makes the row ready first.
use mathlib.Core.Path.{sym, ◌∙◌}
use native.Mathlib.Omega.{arith}
use Rattle.game.specs.Position.{position}
use Rattle.game.specs.Model.{arena_of}
use Rattle.ways.proofs.Placing.{stocks_below}
use Rattle.lookup.proofs.opponents.opponents_at.Goals as goal

pub reply_at-requires : goal.reply_at-requires
reply_at-requires c = record { valid = c.requires.valid; i_bound = (c.requires.i_bound.0, c.requires.i_bound.1, c.prepare-ready.ensures.ranked.listed.long, omega (arith, c.prepare-ready.ensures.long)); prepared = c.prepare-ready.ensures.prepared; state_bound = (omega (arith, c.spot_of-spot.ensures.state, c.spot_of-spot.ensures.fits.0), omega (arith, stocks_below (arena_of c.args.block.now c.args.i) (position c.args.s c.args.stocks.now) c.spot_of-spot.ensures.fits, c.spot_of-spot.ensures.place)) }

pub returns : goal.returns
returns c = record { answers = c.reply_at.ensures (position c.args.s c.args.stocks.now) c.spot_of-spot.ensures; room_len_unchanged = c.prepare-ready.ensures.long ∙ sym c.requires.i_bound.3 }
