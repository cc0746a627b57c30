-- `lands` fills up what is left of the place when the move is paid.
use mathlib.Core.Path.{◌∙◌, sym, ap₂, refl}
use Prim.Native.Nat.{ℕ, ◌-◌, ◌<◌}
use native.Mathlib.Omega.{arith}
use Rattle.std.specs.Prelude.{Some}
use Rattle.ways.specs.Lines.{packed_in, given_in}
use Rattle.ways.specs.Packed.{filled_place}
use Rattle.ways.proofs.Leading.{few, listed_small, given_small, narrow_here, lands_filled, lands_nowhere, spends_lands}
use Rattle.ways.proofs.landing.lands.Goals as goal

pub given-g-requires : goal.given-g-requires
given-g-requires c = let small = listed_small c.args.block.now c.requires.valid c.args.row c.args.ways.now c.requires.playable.1 c.args.spot.state c.args.k c.requires.state_bound.0 c.requires.state_bound.2 in
    (c.requires.playable.1.long, small.0, small.1)

pub returns-then-g-eq0 : goal.returns-then-g-eq0
returns-then-g-eq0 c = spends_lands c.args.block.now c.requires.valid c.args.row c.requires.playable.0 c.args.ways.now c.requires.playable.1 c.args.spot.state c.args.spot.place c.args.k _ c.requires.state_bound.0 c.requires.state_bound.1 c.requires.state_bound.2 refl (sym c.given-g.ensures.0 ∙ c.if-g-eq0.true) (Some c.in_ok-y.y) (c.in_ok-y.ensures)

pub filled-requires : goal.filled-requires
filled-requires c = let narrow = narrow_here c.args.block.now c.requires.valid c.args.row c.requires.playable.0 c.args.ways.now c.requires.playable.1 c.args.spot.state c.requires.state_bound.0 in
    let some = few c.args.block.now c.requires.valid c.args.row c.requires.playable.0 in
    let rest = (c.in_ok-y.ensures).1 in
    let given : given_in c.args.ways.now c.args.spot.state c.args.k < c.args.row.places = omega (arith, given_small c.args.block.now c.requires.valid c.args.row c.requires.playable.0 c.args.ways.now c.requires.playable.1 c.args.spot.state c.args.spot.place c.args.k _ c.requires.state_bound.0 c.requires.state_bound.1 c.requires.state_bound.2 refl, c.requires.playable.0.places_are) in record { ways_len = (c.requires.playable.1.long, omega arith, omega arith, c.given-g.ensures.1); narrow = (narrow (c.args.row.places - 1) (omega arith), narrow c.in_ok-y.y (omega arith), narrow c.given-g.result (omega (arith, c.given-g.ensures.0))) }

pub returns : goal.returns
returns c = let (covers, rest) = c.in_ok-y.ensures in
    lands_filled c.args.block.now c.requires.valid c.args.row c.requires.playable.0 c.args.ways.now c.requires.playable.1 c.args.spot.state c.args.spot.place c.args.k _ c.requires.state_bound.0 c.requires.state_bound.1 c.requires.state_bound.2 refl covers c.filled.result
    (c.filled.ensures
    ∙ ap₂ (λ (y g : ℕ). filled_place (packed_in c.args.ways.now (c.args.row.places - 1)) (packed_in c.args.ways.now y) (packed_in c.args.ways.now g)) (omega arith) c.given-g.ensures.0)

pub returns-in_err-y : goal.returns-in_err-y
returns-in_err-y c = rw c.from_residual.ensures (lands_nowhere c.args.block.now c.requires.valid c.args.row c.requires.playable.0 c.args.ways.now c.requires.playable.1 c.args.spot.state c.args.spot.place c.args.k _ c.requires.state_bound.0 c.requires.state_bound.1 c.requires.state_bound.2 refl
    c.in_err-y.ensures)
