-- `offered` looks at the replies to the move where it lands.
use mathlib.Core.Bool.{true}
use mathlib.Core.Path.{subst, sym}
use native.Mathlib.Omega.{arith}
use Prim.Native.Nat.{ℕ}
use Rattle.game.specs.Position.{MoveOf}
use Rattle.game.specs.Model.{structure_of, coalition_of}
use Rattle.ways.specs.Landing.{WorstWithin}
use Rattle.ways.specs.Lines.{number_in}
use Rattle.ways.proofs.Leading.{listed_small}
use Rattle.sweeps.proofs.Offering.{offer_gathered, offer_nothing}
use Rattle.sweeps.proofs.value.offered.Goals as goal
use Rattle.sweeps.proofs.value.offered.Lts as lts
use Rattle.sweeps.proofs.value.offered.Reads as reads
use Rattle.sweeps.proofs.value.offered.Tie as tie

abbrev At-Start : Type 0
At-Start = lts.Start tie.the-claims reads.Pre reads.Post tie.handed_clauses

-- the number that is tried is a move
move : (start : At-Start) → MoveOf (structure_of start.args.block.now) (coalition_of start.args.block.now start.args.row.index) start.args.spot.state
    (number_in start.args.ways.now start.args.spot.state true start.args.tried.k)
move start = (((start.requires.playable.1.states start.args.spot.state start.requires.state_bound.0).lines true).only start.args.tried.k start.requires.state_bound.2).0.0

pub number-requires : goal.number-requires
number-requires c = let small = listed_small c.args.block.now c.requires.valid c.args.row c.args.ways.now c.requires.playable.1 c.args.spot.state c.args.tried.k
    c.requires.state_bound.0 c.requires.state_bound.2 in
    (c.requires.playable.1.long, small.0, small.1)

pub worst_at-requires : goal.worst_at-requires
worst_at-requires c = record {
  valid = c.requires.valid;
  playable = (c.requires.playable.0, c.requires.playable.1, c.requires.playable.2);
  made = (
    c.requires.state_bound.0,
    subst (MoveOf (structure_of c.args.block.now) (coalition_of c.args.block.now c.args.row.index) c.args.spot.state) (sym c.number.ensures) (move c.before.before.before.before.before.before),
    omega (arith, (rw c.in-Some.is at c.requires.lands).0, c.requires.playable.0.places_are),
  );
}

pub returns-in-Some : goal.returns-in-Some
returns-in-Some c = record {
  gathered = offer_gathered c.args.block.now c.requires.valid c.args.row c.requires.playable.0 c.args.spot.state c.args.spot.place
      (number_in c.args.ways.now c.args.spot.state true c.args.tried.k) c.requires.state_bound.0 c.requires.state_bound.1 c.args.limit.most c.args.ranks.now
      (move c.before.before.before.before.before.before.before) c.in-Some.y c.args.limit.rank c.worst_at.result (rw c.in-Some.is at c.requires.lands)
      (subst (λ (m : ℕ). WorstWithin c.args.block.now c.args.row c.args.ranks.now c.args.spot.state m c.in-Some.y c.args.limit.most c.args.limit.rank c.worst_at.result) c.number.ensures
      c.worst_at.ensures.worst_within);
  upper_bound = c.worst_at.ensures.upper_bound;
}

pub returns-in-None : goal.returns-in-None
returns-in-None c = record {
  gathered = offer_nothing c.args.block.now c.requires.valid c.args.row c.requires.playable.0 c.args.spot.state c.args.spot.place
      (number_in c.args.ways.now c.args.spot.state true c.args.tried.k) c.requires.state_bound.0 c.requires.state_bound.1 c.args.limit.most c.args.ranks.now
      (rw c.in-None.is at c.requires.lands) c.args.limit.rank;
  upper_bound = λ small. small;
}
