-- `rehearse_row` makes the row ready, looks whether the team wins at full stock, plays, and stores the report.
use mathlib.Core.Bool.{cond}
use mathlib.Core.List.{List}
use mathlib.Core.Path.{◌≡◌, refl, sym, ◌∙◌, ap, subst₂}
use Prim.Native.Nat.{ℕ, ◌+◌, ◌*◌, ◌<◌}
use native.Mathlib.Omega.{arith}
use Rattle.block.proofs.Decide as D
use Rattle.block.proofs.Refusals.{turned_down, past, answered}
use Rattle.game.specs.Position.{Arena, IsPosition, number, full}
use Rattle.game.specs.Play.{Objective, CoalitionWins}
use Rattle.game.specs.Model.{arena_of, objective_of}
use Rattle.game.proofs.Blocks.Passing.{valid_proper, number_few}
use Rattle.game.proofs.Bridge.Truth.{full_fits}
use Rattle.turns.specs.Buffers.{rank_in}
use Rattle.ways.proofs.Placing.{placed_number}
use Rattle.rankings.specs.Kinds.{ClaimsBy, kind_of}
use Rattle.choice.proofs.Moving.{places_of}
use Rattle.solver.proofs.Readiness.{ready_table, ready_decided, claimed_wins, wins_claimed_by}
use Rattle.rehearsal.specs.Inner.Turns.{EndsAs}
use Rattle.std.specs.Prelude.{Some}
use Rattle.rehearsal.proofs.Rehearsing.{all_available, reported}
use Rattle.rehearsal.proofs.call.rehearse_row.Goals as goal
use Rattle.rehearsal.proofs.call.rehearse_row.Lts as lts
use Rattle.rehearsal.proofs.call.rehearse_row.Reads as reads
use Rattle.rehearsal.proofs.call.rehearse_row.Tie as tie

abbrev At-After-claims : Type 0
At-After-claims = lts.After-claims tie.the-claims reads.Pre reads.Post tie.handed_clauses

abbrev At-Else-not-claims : Type 0
At-Else-not-claims = lts.Else1 tie.the-claims reads.Pre reads.Post tie.handed_clauses

abbrev At-In-Some : Type 0
At-In-Some = lts.Past-After-known_told tie.the-claims reads.Pre reads.Post tie.handed_clauses

abbrev At-Start : Type 0
At-Start = lts.Start tie.the-claims reads.Pre reads.Post tie.handed_clauses

module _ (start : At-Start) where
  abbrev G : Arena
  G = arena_of start.args.block.now start.args.i

  abbrev t : Objective
  t = objective_of start.args.block.now start.args.i

  first_fits : IsPosition G (full G start.args.s)
  first_fits = full_fits G start.args.s start.requires.i_bound.2

  few : number G (full G start.args.s) < 6144
  few = number_few start.args.block.now start.requires.valid start.args.i start.requires.i_bound.0 start.requires.i_bound.1 (full G start.args.s) first_fits

pub rank_at-rank-requires : goal.rank_at-rank-requires
rank_at-rank-requires c = omega (arith, c.full.ensures, few c.before.before.before.before.before.before.before.before.before.before.before.before, c.prepare-ready.ensures.long)

-- the rank that was looked at tells who wins
module _ (c : At-After-claims) where
  abbrev ranks : List ℕ
  ranks = c.prepare-ready.new.ranks

  own : c.rank_at-rank.result ≡ rank_in ranks (number (G c.before.before.before.before.before.before.before.before.before.before.before.before.before.before) (full (G c.before.before.before.before.before.before.before.before.before.before.before.before.before.before) c.args.s))
  own = c.rank_at-rank.ensures.0 ∙ ap (rank_in ranks) c.full.ensures

  claimed : CoalitionWins (G c.before.before.before.before.before.before.before.before.before.before.before.before.before.before) (t c.before.before.before.before.before.before.before.before.before.before.before.before.before.before) (full (G c.before.before.before.before.before.before.before.before.before.before.before.before.before.before) c.args.s) → ClaimsBy (kind_of c.goal_of.result) c.rank_at-rank.result
  claimed wins =
      subst₂ ClaimsBy (sym c.goal_of.ensures) (sym own) (wins_claimed_by c.prepare-ready.ensures.valid c.prepare-ready.ensures.inside c.prepare-ready.ensures.strategic c.prepare-ready.ensures.prepared (full (G c.before.before.before.before.before.before.before.before.before.before.before.before.before.before) c.args.s) (first_fits c.before.before.before.before.before.before.before.before.before.before.before.before.before.before) wins)

  wins_by : ClaimsBy (kind_of c.goal_of.result) c.rank_at-rank.result → CoalitionWins (G c.before.before.before.before.before.before.before.before.before.before.before.before.before.before) (t c.before.before.before.before.before.before.before.before.before.before.before.before.before.before) (full (G c.before.before.before.before.before.before.before.before.before.before.before.before.before.before) c.args.s)
  wins_by claim =
      claimed_wins c.prepare-ready.ensures.valid c.prepare-ready.ensures.inside c.prepare-ready.ensures.strategic c.prepare-ready.ensures.prepared (full (G c.before.before.before.before.before.before.before.before.before.before.before.before.before.before) c.args.s) (first_fits c.before.before.before.before.before.before.before.before.before.before.before.before.before.before) (subst₂ ClaimsBy c.goal_of.ensures own claim)

pub returns-then-not-claims : goal.returns-then-not-claims
returns-then-not-claims c = record { answers = turned_down (λ wins. D.falsity c.claims.ensures c.if-not-claims.true (claimed c.before.before wins)); kept = (refl, c.prepare-ready.ensures.long ∙ sym c.requires.script_len_bound.2) }

wins_here : (c : At-Else-not-claims) → CoalitionWins (G c.before.before.before.before.before.before.before.before.before.before.before.before.before.before.before) (t c.before.before.before.before.before.before.before.before.before.before.before.before.before.before.before) (full (G c.before.before.before.before.before.before.before.before.before.before.before.before.before.before.before) c.args.s)
wins_here c = wins_by c.before (D.truth c.claims.ensures c.if-not-claims.false)

pub play-requires : goal.play-requires
play-requires c = record { made_ready = c.prepare-ready.ensures; s_bound = (c.requires.i_bound.2, wins_here c.before.before) }

-- how the rehearsal ends
module _ (c : At-In-Some) where
  abbrev last : ℕ
  last = c.in-Some.ended.last.state * c.prepare-ready.result.row.places + c.in-Some.ended.last.place

  ends : EndsAs (G c.before.before.before.before.before.before.before.before.before.before.before.before.before.before.before.before.before.before) (t c.before.before.before.before.before.before.before.before.before.before.before.before.before.before.before.before.before.before) c.args.script.now (full (G c.before.before.before.before.before.before.before.before.before.before.before.before.before.before.before.before.before.before) c.args.s) (Some c.in-Some.ended)
  ends = rw c.in-Some.is at c.play.ensures

  last_number_lem : last ≡ number (G c.before.before.before.before.before.before.before.before.before.before.before.before.before.before.before.before.before.before) (ends.0.at c.in-Some.ended.moves)
  last_number_lem =
      ap (λ (n : ℕ). c.in-Some.ended.last.state * n + c.in-Some.ended.last.place) (places_of c.args.block.now c.prepare-ready.result.row c.args.i c.prepare-ready.ensures.ranked.sought.playable c.prepare-ready.ensures.ranked.index_is)
      ∙ placed_number (G c.before.before.before.before.before.before.before.before.before.before.before.before.before.before.before.before.before.before) c.in-Some.ended.last.state c.in-Some.ended.last.place (ends.0.at c.in-Some.ended.moves) ends.2

  last_small : last < 6144
  last_small =
      omega (arith, last_number_lem, number_few c.args.block.now c.requires.valid c.args.i c.requires.i_bound.0 c.requires.i_bound.1 (ends.0.at c.in-Some.ended.moves) ends.2.fits)

pub overflow_mul-position : goal.overflow_mul-position
overflow_mul-position c = record { fits = omega (arith, last_small c.before.before.before) }

pub overflow_add-position : goal.overflow_add-position
overflow_add-position c = record { fits = omega (arith, last_small c.before.before.before.before) }

pub store-requires : goal.store-requires
store-requires c = (c.requires.script_len_bound.1, omega (arith, (ends c.before.before.before.before.before).1.inside, c.requires.script_len_bound.0), omega (arith, last_small c.before.before.before.before.before))

pub shape_of-room-in-Some : goal.shape_of-room-in-Some
shape_of-room-in-Some c = c.prepare-ready.ensures.long ∙ sym c.requires.script_len_bound.2

pub returns-in-Some : goal.returns-in-Some
returns-in-Some c = let (P, end, _) = ends c.before.before.before.before.before.before.before.before in
    let wins = wins_here c.before.before.before.before.before.before.before.before.before.before.before in
    let proper = valid_proper c.args.block.now c.prepare-ready.ensures.valid in
    let X = ready_table c.prepare-ready.ensures.valid c.prepare-ready.ensures.inside c.prepare-ready.ensures.strategic c.prepare-ready.ensures.prepared in
    let decided = ready_decided c.prepare-ready.ensures.valid c.prepare-ready.ensures.inside c.prepare-ready.ensures.strategic c.prepare-ready.ensures.prepared in
    let (moves, finished, position, long) = c.store.ensures in
    record {
      answers = past (λ loses. loses wins)
          (past (all_available (G c.before.before.before.before.before.before.before.before.before.before.before.before.before.before.before.before.before.before.before.before.before.before.before.before.before.before) proper (t c.before.before.before.before.before.before.before.before.before.before.before.before.before.before.before.before.before.before.before.before.before.before.before.before.before.before) X decided c.args.script.now (full (G c.before.before.before.before.before.before.before.before.before.before.before.before.before.before.before.before.before.before.before.before.before.before.before.before.before.before) c.args.s) P c.in-Some.ended.moves (cond c.in-Some.ended.finished 1 0) end)
          (answered (
            refl,
            reported (G c.before.before.before.before.before.before.before.before.before.before.before.before.before.before.before.before.before.before.before.before.before.before.before.before.before.before) proper (t c.before.before.before.before.before.before.before.before.before.before.before.before.before.before.before.before.before.before.before.before.before.before.before.before.before.before) X decided c.args.script.now (full (G c.before.before.before.before.before.before.before.before.before.before.before.before.before.before.before.before.before.before.before.before.before.before.before.before.before.before) c.args.s) (first_fits c.before.before.before.before.before.before.before.before.before.before.before.before.before.before.before.before.before.before.before.before.before.before.before.before.before.before) wins P c.in-Some.ended.moves (cond c.in-Some.ended.finished 1 0) end
                c.store.new.report moves finished (position ∙ last_number_lem c.before.before.before.before.before.before.before.before) long,
          )));
      kept = (tt, c.prepare-ready.ensures.long ∙ sym c.requires.script_len_bound.2);
    }

pub returns-in-None : goal.returns-in-None
returns-in-None c = record { answers = past (λ loses. loses (wins_here c.before.before.before.before)) (turned_down (rw c.in-None.is at c.play.ensures)); kept = (refl, c.prepare-ready.ensures.long ∙ sym c.requires.script_len_bound.2) }
