-- `reply_at` looks who wins, makes the move where it lands, and replies.
use mathlib.Core.Path.{◌≡◌, sym, ◌∙◌, ap, subst, subst₂}
use Prim.Native.Nat.{ℕ, ◌+◌, ◌*◌, ◌<◌}
use native.Mathlib.Omega.{arith}
use Rattle.std.specs.Prelude.{Some}
use Rattle.block.specs.Layout as L
use Rattle.block.proofs.Decide as D
use Rattle.block.proofs.Refusals.{turned_down, past, answered}
use Rattle.game.specs.Position.{Position, Allowed, number}
use Rattle.game.specs.Inner.Stocks.{stock_places}
use Rattle.game.specs.Model.{arena_of}
use Rattle.turns.specs.Buffers.{rank_in}
use Rattle.choice.proofs.Moving.{places_of}
use Rattle.rankings.specs.Kinds.{ClaimsBy}
use Rattle.choice.specs.Tables.{RanksOf, ReplyFor}
use Rattle.choice.specs.Choices.{Makes}
use Rattle.ways.specs.Places.{PlacedAt}
use Rattle.ways.proofs.Leading.{number_inside, move_here, allowed_useful}
use Rattle.ways.proofs.Placing.{placed_number}
use Rattle.solver.proofs.Readiness.{claimed_wins, wins_claimed_by}
use Rattle.lookup.proofs.Replying.{opponents_found}
use Rattle.lookup.proofs.opponents.reply_at.Goals as goal
use Rattle.lookup.proofs.opponents.reply_at.Lts as lts
use Rattle.lookup.proofs.opponents.reply_at.Reads as reads
use Rattle.lookup.proofs.opponents.reply_at.Tie as tie

abbrev At-After-rank_at-own : Type 0
At-After-rank_at-own = lts.After-rank_at tie.the-claims reads.Pre reads.Post tie.handed_clauses

abbrev At-After-row_of-row : Type 0
At-After-row_of-row = lts.After-row_of tie.the-claims reads.Pre reads.Post tie.handed_clauses

abbrev At-Else-claims : Type 0
At-Else-claims = lts.Else1 tie.the-claims reads.Pre reads.Post tie.handed_clauses

abbrev At-In-Some : Type 0
At-In-Some = lts.Past-After-known_told tie.the-claims reads.Pre reads.Post tie.handed_clauses

-- the row's stock places are those of row i
places : (c : At-After-row_of-row) → c.row_of-row.result.places ≡ stock_places (arena_of c.args.block.now c.args.i)
places c =
    places_of c.args.block.now c.row_of-row.result c.args.i c.row_of-row.ensures.0 c.row_of-row.ensures.1

inside : (c : At-After-row_of-row) → c.args.spot.state * c.row_of-row.result.places + c.args.spot.place < 6144
inside c =
    number_inside c.args.block.now c.requires.valid c.row_of-row.result c.row_of-row.ensures.0 c.args.spot.state c.args.spot.place c.requires.state_bound.0 (omega (arith, c.requires.state_bound.1, places c))

pub overflow_mul-spot : goal.overflow_mul-spot
overflow_mul-spot c = record { fits = omega (arith, inside c.before.before.before) }

pub overflow_add-spot : goal.overflow_add-spot
overflow_add-spot c = record { fits = omega (arith, inside c.before.before.before.before) }

pub rank_at-own-requires : goal.rank_at-own-requires
rank_at-own-requires c = omega (arith, inside c.before.before.before.before, c.requires.i_bound.3)

-- the rank that was looked at is the position's
own : (c : At-After-rank_at-own) (p : Position) → PlacedAt (arena_of c.args.block.now c.args.i) c.args.spot.state c.args.spot.place p → c.rank_at-own.result ≡ rank_in c.args.ranks.now (number (arena_of c.args.block.now c.args.i) p)
own c p placed =
    c.rank_at-own.ensures.0
    ∙ ap (λ (n : ℕ). rank_in c.args.ranks.now (c.args.spot.state * n + c.args.spot.place)) (places c.before.before.before.before)
    ∙ ap (rank_in c.args.ranks.now) (placed_number (arena_of c.args.block.now c.args.i) c.args.spot.state c.args.spot.place p placed)

pub returns-then-claims : goal.returns-then-claims
returns-then-claims c p placed = turned_down (claimed_wins c.requires.valid c.requires.i_bound.0 c.requires.i_bound.1 c.requires.prepared p placed.fits (subst₂ ClaimsBy c.goal_of.ensures (own c.before.before.before.before p placed) (D.truth c.claims.ensures c.if-claims.true)))

pub list_row-requires : goal.list_row-requires
list_row-requires c = record { valid = c.requires.valid; playable = (c.row_of-row.ensures.0, c.requires.i_bound.2, c.row_of-row.ensures.4) }

pub way_to-requires : goal.way_to-requires
way_to-requires c = record { valid = c.requires.valid; playable = (c.row_of-row.ensures.0, c.list_row.ensures); state_bound = (c.requires.state_bound.0, omega (arith, c.requires.state_bound.1, places c.before.before.before.before.before.before.before.before.before.before.before.before)) }

-- the move that is made, and where it lands
made : (c : At-In-Some) → Makes c.args.block.now c.row_of-row.result c.args.spot.state c.args.spot.place c.args.m (Some c.in-Some.y)
made c = rw c.in-Some.is at c.way_to.ensures

-- the rank says that the team does not win
unclaimed : (c : At-Else-claims) → ClaimsBy (L.kind c.args.block.now c.args.i) c.rank_at-own.result → ⊥
unclaimed c claim = D.falsity c.claims.ensures c.if-claims.false (subst (λ (k : ℕ). ClaimsBy k c.rank_at-own.result) (sym c.goal_of.ensures) claim)

pub reply_to-r-requires : goal.reply_to-r-requires
reply_to-r-requires c = let (move, lands) = made c.before in record {
  valid = c.requires.valid;
  playable = (c.row_of-row.ensures.0, c.list_row.ensures, c.requires.i_bound.3);
  made = (
    (c.requires.state_bound.0, move, omega (arith, lands.0, c.row_of-row.ensures.0.places_are)),
    subst₂ (λ (i left : ℕ). RanksOf c.args.block.now i left c.args.ready.right c.args.ranks.now) (sym c.row_of-row.ensures.1) (sym c.row_of-row.ensures.3) c.requires.prepared.ranks_of,
  );
  fact = λ claim. unclaimed c.before.before.before.before.before.before.before (subst (λ (i : ℕ). ClaimsBy (L.kind c.args.block.now i) c.rank_at-own.result) c.row_of-row.ensures.1 claim);
}

-- at a position of row i
module _ (c : At-Else-claims) (p : Position) (placed : PlacedAt (arena_of c.args.block.now c.args.i) c.args.spot.state c.args.spot.place p) where
  here : PlacedAt (arena_of c.args.block.now c.row_of-row.result.index) c.args.spot.state c.args.spot.place p
  here = subst (λ (i : ℕ). PlacedAt (arena_of c.args.block.now i) c.args.spot.state c.args.spot.place p) (sym c.row_of-row.ensures.1) placed

  lost : ClaimsBy (L.kind c.args.block.now c.args.i) (rank_in c.args.ranks.now (number (arena_of c.args.block.now c.args.i) p)) → ⊥
  lost claim = unclaimed c (subst (ClaimsBy (L.kind c.args.block.now c.args.i)) (sym (own c.before.before.before p placed)) claim)

pub returns-in-Some : goal.returns-in-Some
returns-in-Some c p placed = let (move, lands) = made c.before.before in
    let at = here c.before.before.before.before.before.before.before.before p placed in
    let (paid, leaves) = lands.1 p at in
    let allowed = move_here c.args.block.now c.requires.valid c.row_of-row.result c.row_of-row.ensures.0 c.args.spot.state c.args.spot.place c.args.m p at move paid in
    let rank = ap (λ (i : ℕ). rank_in c.args.ranks.now (number (arena_of c.args.block.now i) p)) c.row_of-row.ensures.1 ∙ sym (own c.before.before.before.before.before.before.before.before.before.before.before p placed) in
    let reply = c.reply_to-r.ensures.0 p at.fits at.state leaves allowed rank in
    let allowed-here = subst (λ (i : ℕ). Allowed (arena_of c.args.block.now i) p c.args.m) c.row_of-row.ensures.1 allowed in
    let unwon = lost c.before.before.before.before.before.before.before.before p placed in
    past (λ wins. unwon (wins_claimed_by c.requires.valid c.requires.i_bound.0 c.requires.i_bound.1 c.requires.prepared p placed.fits wins))
    (past (λ fails. fails allowed-here)
    (answered
    (opponents_found c.requires.valid c.requires.i_bound.0 c.requires.i_bound.1 c.requires.prepared placed.fits unwon allowed-here c.reply_to-r.result c.reply_to-r.ensures.1
    (subst₂ (λ (i left : ℕ). ReplyFor c.args.block.now i left c.args.ready.right c.args.ranks.now p c.args.m c.reply_to-r.result) c.row_of-row.ensures.1 c.row_of-row.ensures.3 reply))))

pub returns-in-None : goal.returns-in-None
returns-in-None c p placed = past (λ wins. lost c.before.before.before.before.before.before.before p placed (wins_claimed_by c.requires.valid c.requires.i_bound.0 c.requires.i_bound.1 c.requires.prepared p placed.fits wins)) (turned_down (λ allowed.
    let there = here c.before.before.before.before.before.before.before p placed in
    let paid = subst (λ (i : ℕ). Allowed (arena_of c.args.block.now i) p c.args.m) (sym c.row_of-row.ensures.1) allowed in
    let useful = allowed_useful c.args.block.now c.requires.valid c.row_of-row.result c.row_of-row.ensures.0 c.row_of-row.ensures.2 c.args.spot.state c.args.spot.place p there c.args.m paid in
    rw c.in-None.is at c.way_to.ensures p there useful paid))
