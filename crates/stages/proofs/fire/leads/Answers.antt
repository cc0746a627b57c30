-- `leads` asks where the move lands.
use mathlib.Core.Path.{subst}
use native.Mathlib.Omega.{arith}
use Rattle.block.specs.Inner.Tests.{fails}
use Rattle.block.proofs.Decide as D
use Rattle.game.specs.Model.{arena_of}
use Rattle.ways.proofs.Placing.{place_position}
use Rattle.stages.specs.Stages.{To}
use Rattle.stages.proofs.Evolving.{to_one}
use Rattle.stages.proofs.fire.leads.Goals as goal

pub returns-in-Some : goal.returns-in-Some
returns-in-Some c = let here : To c.args.block.now c.args.fire.row c.args.ways.now c.args.ways.now c.args.fire.state c.args.x c.args.fire.index c.in-Some.y = (c.requires.state_bound.2, rw c.in-Some.is at c.lands.ensures) in
    D.same (D.equal c.in-Some.y c.args.fire.place) (λ e. subst (To c.args.block.now c.args.fire.row c.args.ways.now c.args.ways.now c.args.fire.state c.args.x c.args.fire.index) e here) (λ to. to_one c.args.block.now c.args.fire.row c.args.ways.now c.args.ways.now c.requires.playable.0 c.args.fire.state c.args.x c.args.fire.index c.in-Some.y c.args.fire.place c.requires.state_bound.0 c.requires.state_bound.1 here to)

pub returns-in-None : goal.returns-in-None
returns-in-None c = fails (λ to.
    let (p, placed) = place_position (arena_of c.args.block.now c.args.fire.row.index) c.args.fire.state c.args.x c.requires.state_bound.0 (omega (arith, c.requires.state_bound.1, c.requires.playable.0.places_are)) in
    rw c.in-None.is at c.lands.ensures p placed (to.1.1 p placed).0)
