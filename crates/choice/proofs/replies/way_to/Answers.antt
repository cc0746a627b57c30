-- `way_to` looks for the number among the listed moves.
use mathlib.Core.Bool.{true}
use mathlib.Core.Path.{subst}
use Prim.Native.Nat.{ℕ}
use native.Mathlib.Omega.{arith}
use Rattle.ways.specs.Lines.{number_in}
use Rattle.choice.specs.Choices.{Makes}
use Rattle.choice.proofs.Replying.{way_makes}
use Rattle.choice.proofs.replies.way_to.Goals as goal

pub find-requires : goal.find-requires
find-requires c = (c.requires.playable.1.long, omega (arith, c.requires.state_bound.0, c.requires.valid.sized.states_fit), ((c.requires.playable.1.states c.args.spot.state c.requires.state_bound.0).lines true).few)

pub returns-in_err-k : goal.returns-in_err-k
returns-in_err-k c = rw c.from_residual.ensures (λ p here useful allowed. let (j, small, e) = ((c.requires.playable.1.states c.args.spot.state c.requires.state_bound.0).lines true).each c.args.m useful in c.in_err-k.ensures j small e)

pub returns : goal.returns
returns c = subst (λ (m : ℕ). Makes c.args.block.now c.args.row c.args.spot.state c.args.spot.place m c.lands.result) c.in_ok-k.ensures.1
    (way_makes c.args.block.now c.args.row c.args.spot.state c.args.spot.place (number_in c.args.ways.now c.args.spot.state true c.in_ok-k.k) c.lands.result
    (((c.requires.playable.1.states c.args.spot.state c.requires.state_bound.0).lines true).only c.in_ok-k.k c.in_ok-k.ensures.0).0.0 c.lands.ensures)
