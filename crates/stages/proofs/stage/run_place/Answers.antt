-- `run_place` goes by the safe states, one after another.
use mathlib.Core.List.{List}
use mathlib.Core.Path.{sym, subst₂}
use Prim.Native.Nat.{ℕ}
use native.Mathlib.Omega.{arith}
use Rattle.block.specs.Decide.{Bit}
use Rattle.block.proofs.Decide as D
use Rattle.stages.specs.Stages.{Evolved, StateDone}
use Rattle.stages.proofs.Evolving.{evolved_none, evolved_then, lent_still}
use Rattle.stages.proofs.Fronts.{place_more}
use Rattle.stages.proofs.stage.run_place.Goals as goal
use Rattle.stages.proofs.stage.run_place.Goals.{then-has_bit, else-has_bit}

pub overflow_sub-attack : goal.overflow_sub-attack
overflow_sub-attack c = omega (arith, c.requires.y_lt_places.1)

pub ranked_within-fresh-requires : goal.ranked_within-fresh-requires
ranked_within-fresh-requires c = record { valid = c.requires.valid.0; playable = (c.requires.valid.1.playable, omega (arith, c.requires.lent.ranks_long), c.requires.y_lt_places.0) }

pub states-n-requires : goal.states-n-requires
states-n-requires c = c.requires.valid.0.sized.bytes

pub loop-s-init : goal.loop-s-init
loop-s-init c = let none = evolved_none c.args.block.now c.args.attack.row c.args.ways.now c.args.board.now c.args.attack.most c.args.attack.safe c.args.attack.stage c.args.ranks.now c.args.flags.now in
    (omega arith, none, λ s l. absurd (omega arith))

pub has_bit-requires : goal.has_bit-requires
has_bit-requires c = omega (arith, c.loop-s-test.true, c.states-n.ensures, c.requires.valid.0.sized.states_fit)

pub run_state-requires : goal.run_state-requires
run_state-requires c = record { valid = c.requires.valid; lent = lent_still c.args.block.now c.args.attack.row c.args.ways.now c.args.board.now c.args.attack.most c.args.attack.safe c.args.attack.stage c.requires.lent.small c.loop-s.invariant.1 c.requires.lent; state_bound = (omega (arith, c.loop-s-test.true, c.states-n.ensures), c.requires.y_lt_places.0, D.truth c.has_bit.ensures c.if-has_bit.true) }

pub overflow_step-s : goal.overflow_step-s
overflow_step-s c = omega (arith, c.loop-s-test.true)

pub loop-s-smaller : goal.loop-s-smaller
loop-s-smaller c = omega (arith, c.loop-s-test.true)

pub loop-s-preserved : goal.loop-s-preserved
loop-s-preserved c = let Went : List ℕ → List ℕ → Type 0 = λ ranks flags.
    Evolved c.args.block.now c.args.attack.row c.args.ways.now c.args.board.now c.args.attack.most c.args.attack.safe c.args.attack.stage c.loop-s.ranks c.loop-s.flags ranks flags
    × (Bit c.args.attack.safe c.loop-s.s → StateDone c.args.block.now c.args.attack.row c.args.ways.now c.args.board.now c.args.attack.most ranks c.args.y c.ranked_within-fresh.result c.loop-s.s) in
    let went : Went c.if-has_bit.ranks c.if-has_bit.flags =
    elim c.if-has_bit.branch [
      | then-has_bit w ↦
          subst₂ Went (sym w.ranks-is) (sym w.flags-is) (w.run_state.ensures.0, λ _. w.run_state.ensures.1)
      | else-has_bit w ↦
          subst₂ Went (sym w.ranks-is) (sym w.flags-is) (
            evolved_none c.args.block.now c.args.attack.row c.args.ways.now c.args.board.now c.args.attack.most c.args.attack.safe c.args.attack.stage _ _,
            λ bit. absurd (D.falsity c.has_bit.ensures w.if-has_bit.false bit),
          )
    ] in (
      omega (arith, c.loop-s-test.true),
      evolved_then c.args.block.now c.args.attack.row c.args.ways.now c.args.board.now c.args.attack.most c.args.attack.safe c.args.attack.stage c.requires.lent.small c.loop-s.invariant.1 went.0,
      place_more c.args.block.now c.args.attack.row c.args.ways.now c.args.board.now c.args.attack.most c.args.attack.safe c.args.attack.stage c.requires.lent.small went.0 c.requires.valid.1.playable c.args.y c.ranked_within-fresh.result c.loop-s.s (omega (arith, c.loop-s-test.true, c.states-n.ensures)) c.loop-s.invariant.2 went.1,
    )

pub shape_of-ranks : goal.shape_of-ranks
shape_of-ranks c = c.loop-s.invariant.1.ranks_long

pub shape_of-flags : goal.shape_of-flags
shape_of-flags c = c.loop-s.invariant.1.flags_long

pub returns : goal.returns
returns c = (
  c.loop-s.invariant.1,
  (c.ranked_within-fresh.result, c.ranked_within-fresh.ensures.0, λ s l. c.loop-s.invariant.2 s (omega (arith, l, c.loop-s.invariant.0, c.loop-s-test.false, c.states-n.ensures))),
)
