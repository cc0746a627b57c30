-- `stays` asks where the move lands, and what is ranked there.
use mathlib.Core.Bool.{false}
use mathlib.Core.Path.{subst}
use native.Mathlib.Omega.{arith}
use Rattle.block.specs.Inner.Tests.{fails}
use Rattle.block.proofs.Decide as D
use Rattle.game.specs.Model.{arena_of}
use Rattle.ways.proofs.Leading.{few, listed_small}
use Rattle.ways.proofs.Placing.{place_position}
use Rattle.stages.specs.Stages.{To, FiresAt}
use Rattle.stages.proofs.Evolving.{to_one}
use Rattle.stages.proofs.staying.stays.Goals as goal
use Rattle.stages.proofs.staying.stays.Lts as lts
use Rattle.stages.proofs.staying.stays.Reads as reads
use Rattle.stages.proofs.staying.stays.Tie as tie

abbrev At-In-Some : Type 0
At-In-Some = lts.Past-After-known_told tie.the-claims reads.Pre reads.Post tie.handed_clauses

-- the move lands at y
landed : (c : At-In-Some) → To c.args.block.now c.args.row c.args.ways.now c.args.board.now c.args.spot.state c.args.spot.place c.args.k c.in-Some.y
landed c = (c.requires.state_bound.2, rw c.in-Some.is at c.lands.ensures)

pub to_at-requires : goal.to_at-requires
to_at-requires c = let small = listed_small c.args.block.now c.requires.valid c.args.row c.args.ways.now c.requires.playable.1 c.args.spot.state c.args.k c.requires.state_bound.0 c.requires.state_bound.2 in
    (c.requires.playable.2, small.0, small.1)

pub won_at-requires : goal.won_at-requires
won_at-requires c = (c.requires.playable.2, omega (arith, (landed c.before.before).1.0, few c.args.block.now c.requires.valid c.args.row c.requires.playable.0, c.requires.playable.0.places_are))

pub returns-in-Some : goal.returns-in-Some
returns-in-Some c = let here = rw (c.to_at.ensures.0, c.won_at.ensures.0) at c.fires.ensures in
    D.opposite here
    (λ fires (z, to, quiet). quiet (subst (FiresAt c.args.block.now c.args.row c.args.ways.now c.args.board.now false c.args.spot.state c.args.k) (to_one c.args.block.now c.args.row c.args.ways.now c.args.board.now c.requires.playable.0 c.args.spot.state c.args.spot.place c.args.k c.in-Some.y z c.requires.state_bound.0 c.requires.state_bound.1 (landed c.before.before.before.before) to) fires))
    (λ quiet. (c.in-Some.y, landed c.before.before.before.before, quiet))

pub returns-in-None : goal.returns-in-None
returns-in-None c = fails (λ (y, to, _).
    let (p, placed) = place_position (arena_of c.args.block.now c.args.row.index) c.args.spot.state c.args.spot.place c.requires.state_bound.0 (omega (arith, c.requires.state_bound.1, c.requires.playable.0.places_are)) in
    rw c.in-None.is at c.lands.ensures p placed (to.1.1 p placed).0)
