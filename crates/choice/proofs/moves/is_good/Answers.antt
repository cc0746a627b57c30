-- `is_good` makes the move where it lands, and looks at its outcomes.
use mathlib.Core.Bool.{true}
use mathlib.Core.Path.{sym, ◌∙◌, subst}
use Prim.Native.Nat.{ℕ}
use native.Mathlib.Omega.{arith}
use borrow.Author.Tests.{eq-eqb}
use Rattle.std.specs.Prelude.{Some}
use Rattle.block.specs.Inner.Tests.{fails}
use Rattle.block.proofs.Decide as D
use Rattle.game.specs.Position.{MoveOf}
use Rattle.game.specs.Model.{structure_of, coalition_of, arena_of}
use Rattle.rankings.specs.Kinds.{kind_of}
use Rattle.ways.specs.Landing.{Lands}
use Rattle.ways.specs.Lines.{number_in}
use Rattle.ways.specs.Listing.{Useful, LeadsInto}
use Rattle.ways.proofs.Leading.{move_here}
use Rattle.choice.specs.Choices.{AimedFrom}
use Rattle.choice.proofs.moves.is_good.Goals as goal
use Rattle.choice.proofs.moves.is_good.Lts as lts
use Rattle.choice.proofs.moves.is_good.Reads as reads
use Rattle.choice.proofs.moves.is_good.Tie as tie

abbrev At-In-Some : Type 0
At-In-Some = lts.Past-After-known_told tie.the-claims reads.Pre reads.Post tie.handed_clauses

abbrev At-Start : Type 0
At-Start = lts.Start tie.the-claims reads.Pre reads.Post tie.handed_clauses

pub lands-requires : goal.lands-requires
lands-requires c = record { valid = c.requires.valid; playable = (c.requires.sought.0.playable, c.requires.sought.1); state_bound = c.requires.state_bound }

pub number-requires : goal.number-requires
number-requires c = (c.requires.sought.1.long, omega (arith, c.requires.state_bound.0, c.requires.valid.sized.states_fit), omega (arith, c.requires.state_bound.2, ((c.requires.sought.1.states c.args.spot.state c.requires.state_bound.0).lines true).few))

-- the move that is tried, and where it lands
useful : (start : At-Start) → Useful start.args.block.now start.args.row start.args.spot.state (number_in start.args.ways.now start.args.spot.state true start.args.k)
useful start = ((start.requires.sought.1.states start.args.spot.state start.requires.state_bound.0).lines true).only start.args.k start.requires.state_bound.2

landed : (c : At-In-Some) → Lands (arena_of c.args.block.now c.args.row.index) c.args.spot.state c.args.spot.place (number_in c.args.ways.now c.args.spot.state true c.args.k) (Some c.in-Some.y)
landed c = rw c.in-Some.is at c.lands.ensures

pub aimed-requires : goal.aimed-requires
aimed-requires c = let is = sym c.number.ensures in record {
  valid = c.requires.valid;
  sought = c.requires.sought;
  made = (
    c.requires.state_bound.0,
    subst (MoveOf (structure_of c.args.block.now) (coalition_of c.args.block.now c.args.row.index) c.args.spot.state) is (useful c.before.before.before.before.before.before.before).0.0,
    omega (arith, (landed c.before.before).0, c.requires.sought.0.playable.places_are),
  );
  leads_into = λ soon. subst (λ (m : ℕ). LeadsInto c.args.block.now c.args.row.index c.args.spot.state m c.args.row.set) is
      ((useful c.before.before.before.before.before.before.before).1 (c.requires.sought.0.into_is ∙ eq-eqb (kind_of c.args.aim.goal) 3 soon));
}

pub returns-in-Some : goal.returns-in-Some
returns-in-Some c p placed = let m = number_in c.args.ways.now c.args.spot.state true c.args.k in
    let (paid, leaves) = (landed c.before.before.before).1 p placed in
    let aimed = subst (λ (n : ℕ). AimedFrom c.args.block.now c.args.row c.args.ranks.now (kind_of c.args.aim.goal) c.args.aim.own c.args.spot.state n c.in-Some.y c.aimed.result) c.number.ensures c.aimed.ensures in
    D.same (aimed p placed.fits placed.state leaves) (λ h. (move_here c.args.block.now c.requires.valid c.args.row c.requires.sought.0.playable c.args.spot.state c.args.spot.place m p placed (useful c.before.before.before.before.before.before.before.before).0.0 paid, h)) (λ good. good.1)

pub returns-in-None : goal.returns-in-None
returns-in-None c p placed = fails (λ (allowed, _). rw c.in-None.is at c.lands.ensures p placed allowed.1)
