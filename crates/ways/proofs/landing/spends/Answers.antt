-- `spends` asks whether the place has what the move takes.
use mathlib.Core.Path.{sym, subst}
use Prim.Native.Nat.{◌≤◌, ◌<◌}
use native.Mathlib.Omega.{arith}
use Rattle.block.proofs.Decide as D
use Rattle.ways.specs.Packed.{Covers}
use Rattle.ways.proofs.Leading.{few, listed_small, taken_small, taken_below, narrow_here}
use Rattle.ways.proofs.landing.spends.Goals as goal
use Rattle.ways.proofs.landing.spends.Lts as lts
use Rattle.ways.proofs.landing.spends.Reads as reads
use Rattle.ways.proofs.landing.spends.Tie as tie

abbrev At-After-taken-o : Type 0
At-After-taken-o = lts.After-taken tie.the-claims reads.Pre reads.Post tie.handed_clauses

abbrev At-Then-covers : Type 0
At-Then-covers = lts.Then1 tie.the-claims reads.Pre reads.Post tie.handed_clauses

pub taken-o-requires : goal.taken-o-requires
taken-o-requires c = let small = listed_small c.args.block.now c.requires.valid c.args.row c.args.ways.now c.requires.playable.1 c.args.spot.state c.args.k c.requires.state_bound.0 c.requires.state_bound.2 in
    (c.requires.playable.1.long, small.0, small.1)

-- what the move takes
module _ (c : At-After-taken-o) where
  takes_small : c.taken-o.result < c.args.row.places
  takes_small = omega (arith, taken_small c.args.block.now c.requires.valid c.args.row c.requires.playable.0 c.args.ways.now c.requires.playable.1 c.args.spot.state c.args.spot.place c.args.k c.taken-o.result c.requires.state_bound.0 c.requires.state_bound.1 c.requires.state_bound.2 c.taken-o.ensures.0, c.requires.playable.0.places_are)

pub covers-requires : goal.covers-requires
covers-requires c = let narrow = narrow_here c.args.block.now c.requires.valid c.args.row c.requires.playable.0 c.args.ways.now c.requires.playable.1 c.args.spot.state c.requires.state_bound.0 in record { ways_len = (c.requires.playable.1.long, omega (arith, c.requires.state_bound.1, few c.args.block.now c.requires.valid c.args.row c.requires.playable.0), c.taken-o.ensures.1); narrow = (narrow c.args.spot.place c.requires.state_bound.1, narrow c.taken-o.result (takes_small c.before)) }

-- where the place pays
module _ (c : At-Then-covers) where
  pays : Covers c.args.ways.now c.args.spot.place c.taken-o.result
  pays = D.truth c.covers.ensures c.if-covers.true

  enough : c.taken-o.result ≤ c.args.spot.place
  enough =
      taken_below c.args.block.now c.requires.valid c.args.row c.requires.playable.0 c.args.ways.now c.requires.playable.1 c.args.spot.state c.args.spot.place c.args.k c.taken-o.result c.requires.state_bound.0 c.requires.state_bound.1 c.requires.state_bound.2 c.taken-o.ensures.0 pays

pub overflow_sub-result : goal.overflow_sub-result
overflow_sub-result c = omega (arith, enough c.before)

pub returns-then-covers : goal.returns-then-covers
returns-then-covers c = (subst (Covers c.args.ways.now c.args.spot.place) c.taken-o.ensures.0 (pays c.before), omega (arith, enough c.before, c.taken-o.ensures.0))

pub returns : goal.returns
returns c covers = D.falsity c.covers.ensures c.if-covers.false (subst (Covers c.args.ways.now c.args.spot.place) (sym c.taken-o.ensures.0) covers)
