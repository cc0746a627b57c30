-- `play` takes one turn for each byte of the script, as long as the row is unfinished.
use mathlib.Core.Bool.{Bool, true, false}
use mathlib.Core.Logic.{◌↔◌}
use mathlib.Core.Path.{◌≡◌, refl, sym, subst}
use Prim.Native.Nat.{ℕ, ◌<◌}
use native.Mathlib.Omega.{arith}
use lib.ListN.{get_or, length}
use Rattle.block.specs.Layout as L
use Rattle.block.specs.Inner.Tests.{Decides, holds, fails}
use Rattle.block.proofs.Decide as D
use Rattle.game.specs.Position.{Arena, full}
use Rattle.game.specs.Play.{Objective, states}
use Rattle.game.specs.Model.{arena_of, objective_of}
use Rattle.game.proofs.Blocks.Passing.{valid_proper}
use Rattle.game.proofs.Bridge.Truth.{full_fits}
use Rattle.ways.proofs.Placing.{stocks_below}
use Rattle.rankings.specs.Kinds.{kind_of}
use Rattle.choice.proofs.Moving.{places_of}
use Rattle.solver.proofs.Readiness.{ready_table, ready_decided}
use Rattle.rehearsal.specs.Rehearsal.{Finished}
use Rattle.rehearsal.specs.Inner.Turns.{FinishedBy, Turned, Stands, EndsAs}
use Rattle.std.specs.Prelude.{Some}
use Rattle.rehearsal.proofs.Turning.{finished_told}
use Rattle.rehearsal.proofs.Standing.{stands_first, stands_next, stands_stuck, stands_out, stands_done}
use Rattle.rehearsal.proofs.script.play.Goals as goal
use Rattle.rehearsal.proofs.script.play.Lts as lts
use Rattle.rehearsal.proofs.script.play.Reads as reads
use Rattle.rehearsal.proofs.script.play.Tie as tie

abbrev At-After-take_turn : Type 0
At-After-take_turn = lts.After-take_turn tie.the-claims reads.Pre reads.Post goal.the-invariant-loop-n goal.the-decreases-loop-n tie.handed_clauses

abbrev At-At-loop-n : Type 0
At-At-loop-n = lts.At-loop tie.the-claims reads.Pre reads.Post goal.the-invariant-loop-n goal.the-decreases-loop-n tie.handed_clauses

pub goal_of-goal-requires : goal.goal_of-goal-requires
goal_of-goal-requires c = record { block_len = c.requires.made_ready.valid.sized.bytes; i_lt_max_rows = omega (arith, c.requires.made_ready.inside, c.requires.made_ready.valid.sized.rows_fit); strategic = c.requires.made_ready.strategic }

pub full-requires : goal.full-requires
full-requires c = record { valid = c.requires.made_ready.valid; i_bound = (c.requires.made_ready.inside, c.requires.made_ready.strategic, omega (arith, c.requires.s_bound.0)) }

pub loop-n-init : goal.loop-n-init
loop-n-init c = let G = arena_of c.args.block.now c.args.i in
    let fits = full_fits G c.args.s c.requires.s_bound.0 in (
      omega arith,
      stands_first G (valid_proper c.args.block.now c.requires.made_ready.valid) (objective_of c.args.block.now c.args.i) c.args.script.now (full G c.args.s)
          (ready_table c.requires.made_ready.valid c.requires.made_ready.inside c.requires.made_ready.strategic c.requires.made_ready.prepared) (ready_decided c.requires.made_ready.valid c.requires.made_ready.inside c.requires.made_ready.strategic c.requires.made_ready.prepared)
          fits c.requires.s_bound.1 c.args.s c.full.result (record { fits = fits; state = refl; place = sym c.full.ensures }),
    )

-- a place in the loop, or after it
module _ (c : At-At-loop-n) where
  abbrev G : Arena
  G = arena_of c.args.block.now c.args.i

  abbrev t : Objective
  t = objective_of c.args.block.now c.args.i

  abbrev stands : Stands G t c.args.script.now (full G c.args.s) c.loop-n.n c.loop-n.spot.state c.loop-n.spot.place
  stands = c.loop-n.invariant.1

  inside : c.loop-n.spot.state < L.states c.args.block.now
  inside = omega (arith, stands.placed.state, stands.placed.fits.0)

  state_small : c.loop-n.spot.state < 32
  state_small = omega (arith, inside, c.requires.made_ready.valid.sized.states_fit)

  place_small : c.loop-n.spot.place < c.args.ready.row.places
  place_small =
      omega (arith, stands.placed.place, stocks_below G (stands.play.at c.loop-n.n) stands.placed.fits, places_of c.args.block.now c.args.ready.row c.args.i c.requires.made_ready.ranked.sought.playable c.requires.made_ready.ranked.index_is)

  -- whether the row is finished, by the test
  told : FinishedBy (kind_of c.goal_of-goal.result) c.args.ready.right (length c.args.script.now) c.loop-n.spot.state c.loop-n.n ↔ Finished t (length c.args.script.now) (states G stands.play) c.loop-n.n
  told =
      subst (λ (k : ℕ). FinishedBy k c.args.ready.right (length c.args.script.now) c.loop-n.spot.state c.loop-n.n ↔ Finished t (length c.args.script.now) (states G stands.play) c.loop-n.n) (sym c.goal_of-goal.ensures)
      (finished_told c.requires.made_ready.valid c.requires.made_ready.inside c.requires.made_ready.strategic c.requires.made_ready.prepared (length c.args.script.now) (states G stands.play) c.loop-n.n c.loop-n.spot.state stands.placed.state inside)

  ended : FinishedBy (kind_of c.goal_of-goal.result) c.args.ready.right (length c.args.script.now) c.loop-n.spot.state c.loop-n.n → EndsAs G t c.args.script.now (full G c.args.s) (Some (record { moves = c.loop-n.n; finished = true; last = c.loop-n.spot }))
  ended done = (
    stands.play,
    stands_done G (valid_proper c.args.block.now c.requires.made_ready.valid) t c.args.script.now (full G c.args.s) c.loop-n.n c.loop-n.spot.state c.loop-n.spot.place stands c.loop-n.invariant.0 (told.0 done),
    stands.placed,
  )

  -- the script is used up
  used_up : c.loop-n.n ≡ length c.args.script.now → (b : Bool) → Decides (FinishedBy (kind_of c.goal_of-goal.result) c.args.ready.right (length c.args.script.now) c.loop-n.spot.state (length c.args.script.now)) b
      → EndsAs G t c.args.script.now (full G c.args.s) (Some (record { moves = length c.args.script.now; finished = b; last = c.loop-n.spot }))
  used_up e true (holds done) =
      subst (λ (k : ℕ). EndsAs G t c.args.script.now (full G c.args.s) (Some (record { moves = k; finished = true; last = c.loop-n.spot }))) e
      (ended (subst (FinishedBy (kind_of c.goal_of-goal.result) c.args.ready.right (length c.args.script.now) c.loop-n.spot.state) (sym e) done))
  used_up e false (fails unfinished) =
      subst (λ (k : ℕ). EndsAs G t c.args.script.now (full G c.args.s) (Some (record { moves = k; finished = false; last = c.loop-n.spot }))) e (
        stands.play,
        stands_out G (valid_proper c.args.block.now c.requires.made_ready.valid) t c.args.script.now (full G c.args.s) c.loop-n.n c.loop-n.spot.state c.loop-n.spot.place stands
            (λ done. unfinished (subst (FinishedBy (kind_of c.goal_of-goal.result) c.args.ready.right (length c.args.script.now) c.loop-n.spot.state) e (told.1 done))) e,
        stands.placed,
      )

pub is_finished-requires : goal.is_finished-requires
is_finished-requires c = omega (arith, state_small c.before.before, c.requires.s_bound.0, c.requires.made_ready.valid.sized.states_fit)

pub returns-then-is_finished : goal.returns-then-is_finished
returns-then-is_finished c = ended c.before.before.before.before (D.truth c.is_finished.ensures c.if-is_finished.true)

pub bounds-script-n : goal.bounds-script-n
bounds-script-n c = omega (arith, c.loop-n-test.true)

pub take_turn-requires : goal.take_turn-requires
take_turn-requires c = record { made_ready = c.requires.made_ready; state_bound = (inside c.before.before.before.before.before.before, place_small c.before.before.before.before.before.before) }

-- the row is unfinished, and so the turn is one of a position that the team wins
module _ (c : At-After-take_turn) where
  goes_on : Finished (t c.before.before.before.before.before.before) (length c.args.script.now) (states (G c.before.before.before.before.before.before) (stands c.before.before.before.before.before.before).play) c.loop-n.n → ⊥
  goes_on done = D.falsity c.is_finished.ensures c.if-is_finished.false ((told c.before.before.before.before.before.before).1 done)

  turned : Turned (G c.before.before.before.before.before.before) (t c.before.before.before.before.before.before) ((stands c.before.before.before.before.before.before).play.at c.loop-n.n) (get_or c.args.script.now c.loop-n.n 0) c.take_turn.result
  turned =
      let here = (stands c.before.before.before.before.before.before).play.at c.loop-n.n in
      subst (λ (r : ℕ). Turned (G c.before.before.before.before.before.before) (t c.before.before.before.before.before.before) here r c.take_turn.result) c.from.ensures (c.take_turn.ensures here (stands c.before.before.before.before.before.before).placed ((stands c.before.before.before.before.before.before).wins goes_on))

pub returns-in_err-spot : goal.returns-in_err-spot
returns-in_err-spot c = rw c.from_residual.ensures (stands_stuck (G c.before.before.before.before.before.before.before.before.before.before) (valid_proper c.args.block.now c.requires.made_ready.valid) (t c.before.before.before.before.before.before.before.before.before.before) c.args.script.now (full (G c.before.before.before.before.before.before.before.before.before.before) c.args.s) c.loop-n.n c.loop-n.spot.state c.loop-n.spot.place (stands c.before.before.before.before.before.before.before.before.before.before) (goes_on c.before.before.before.before)
    (omega (arith, c.loop-n-test.true)) (rw c.in_err-spot.was at (turned c.before.before.before.before)))

pub loop-n-smaller : goal.loop-n-smaller
loop-n-smaller c = omega (arith, c.loop-n-test.true)

pub loop-n-preserved : goal.loop-n-preserved
loop-n-preserved c = (
  omega (arith, c.loop-n-test.true),
  stands_next (G c.before.before.before.before.before.before.before.before.before) (valid_proper c.args.block.now c.requires.made_ready.valid) (t c.before.before.before.before.before.before.before.before.before) c.args.script.now (full (G c.before.before.before.before.before.before.before.before.before) c.args.s) c.loop-n.n c.loop-n.spot.state c.loop-n.spot.place (stands c.before.before.before.before.before.before.before.before.before) (goes_on c.before.before.before)
      c.in_ok-spot.spot (rw c.in_ok-spot.was at (turned c.before.before.before)),
)

pub is_finished-finished-requires : goal.is_finished-finished-requires
is_finished-finished-requires c = state_small c.before.before

pub returns : goal.returns
returns c = used_up c.before.before.before (omega (arith, c.loop-n-test.false, c.loop-n.invariant.0)) c.is_finished-finished.result c.is_finished-finished.ensures
