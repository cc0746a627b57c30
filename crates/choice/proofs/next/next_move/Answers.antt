-- `next_move` takes the first listed move that the place pays.
use mathlib.Core.Bool.{true}
use mathlib.Core.Path.{sym, ◌∙◌, ap, subst}
use native.Mathlib.Omega.{arith}
use Rattle.turns.specs.Buffers.{rank_in}
use Rattle.ways.specs.Lines.{number_in}
use Rattle.ways.proofs.Leading.{listed_small, number_inside}
use Rattle.choice.specs.Tables.{MoveFor}
use Rattle.choice.proofs.Marking.{paid_good}
use Rattle.choice.proofs.Moving.{spot_placed, move_lost, first_found, some_listed}
use Rattle.choice.proofs.Searching.{joint_number}
use Rattle.choice.proofs.next.next_move.Goals as goal

pub overflow_mul-spot : goal.overflow_mul-spot
overflow_mul-spot c = record { fits = omega (arith, number_inside c.args.block.now c.requires.valid c.args.row c.requires.sought.0.playable c.args.spot.state c.args.spot.place c.requires.state_bound.0 c.requires.state_bound.1) }

pub overflow_add-spot : goal.overflow_add-spot
overflow_add-spot c = record { fits = omega (arith, number_inside c.args.block.now c.requires.valid c.args.row c.requires.sought.0.playable c.args.spot.state c.args.spot.place c.requires.state_bound.0 c.requires.state_bound.1) }

pub rank_at-requires : goal.rank_at-requires
rank_at-requires c = omega (arith, number_inside c.args.block.now c.requires.valid c.args.row c.requires.sought.0.playable c.args.spot.state c.args.spot.place c.requires.state_bound.0 c.requires.state_bound.1, c.requires.sought.2)

pub returns-then-rank_at-ne1 : goal.returns-then-rank_at-ne1
returns-then-rank_at-ne1 c right ranked p fits is = move_lost c.args.block.now c.requires.valid c.args.row 3 c.requires.sought.0 c.args.ranks.now c.args.spot.state c.args.spot.place c.rank_at.result p
    (spot_placed c.args.block.now c.args.row c.requires.sought.0.playable c.args.spot.state c.args.spot.place c.requires.state_bound.0 c.requires.state_bound.1 p fits is)
    (ap (rank_in c.args.ranks.now) is ∙ sym c.rank_at.ensures.0) right c.if-rank_at-ne1.true

pub number-requires : goal.number-requires
number-requires c = let small = listed_small c.args.block.now c.requires.valid c.args.row c.args.ways.now c.requires.sought.1 c.args.spot.state c.in-Some.k c.requires.state_bound.0 c.in-Some.ensures.0 in
    (c.requires.sought.1.long, small.0, small.1)

pub overflow_cast-result : goal.overflow_cast-result
overflow_cast-result c = let useful = ((c.requires.sought.1.states c.args.spot.state c.requires.state_bound.0).lines true).only c.in-Some.k c.in-Some.ensures.0 in
    record { fits = omega (arith, c.number.ensures, joint_number c.args.block.now c.requires.valid (number_in c.args.ways.now c.args.spot.state true c.in-Some.k) useful.0.0.0) }

pub returns-in-Some : goal.returns-in-Some
returns-in-Some c right ranked p fits is =
    let here = spot_placed c.args.block.now c.args.row c.requires.sought.0.playable c.args.spot.state c.args.spot.place c.requires.state_bound.0 c.requires.state_bound.1 p fits is in
    let own = ap (rank_in c.args.ranks.now) is ∙ sym c.rank_at.ensures.0 in
    let state = c.requires.sought.1.states c.args.spot.state c.requires.state_bound.0 in
    let (small, paid, before) = c.in-Some.ensures in
    let good = paid_good c.args.block.now c.requires.valid c.args.row c.requires.sought.0.playable c.requires.sought.0.into_is c.args.spot.state c.args.spot.place p here c.args.ranks.now c.rank_at.result _ ((state.lines true).only c.in-Some.k small) (paid p here) in
    subst (MoveFor c.args.block.now c.args.row.index c.args.row.set right c.args.ranks.now p) (sym c.number.ensures)
    (first_found c.args.block.now c.requires.valid c.args.row 3 c.requires.sought.0 c.args.ranks.now c.args.spot.state c.args.spot.place c.rank_at.result p here own right c.if-rank_at-ne1.false (λ zero. omega (arith, c.if-rank_at-ne1.false)) c.args.ways.now state
    c.in-Some.k small (λ j less good. before j less p here good.0.1) good)

pub returns-in-None : goal.returns-in-None
returns-in-None c right ranked p fits is =
    let here = spot_placed c.args.block.now c.args.row c.requires.sought.0.playable c.args.spot.state c.args.spot.place c.requires.state_bound.0 c.requires.state_bound.1 p fits is in
    let own = ap (rank_in c.args.ranks.now) is ∙ sym c.rank_at.ensures.0 in
    absurd (some_listed c.args.block.now c.requires.valid c.args.row 3 c.requires.sought.0 c.args.ranks.now c.args.spot.state c.args.spot.place c.rank_at.result p here own right c.if-rank_at-ne1.false (λ zero. omega (arith, c.if-rank_at-ne1.false)) c.args.ways.now (c.requires.sought.1.states c.args.spot.state c.requires.state_bound.0) ranked
    (λ j small good. c.in-None.ensures j small p here good.0.1))
