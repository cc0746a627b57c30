-- `turn_over` goes through the places.
use mathlib.Core.Logic.{inl, inr}
use mathlib.Core.Path.{◌≡◌, sym, ◌∙◌, subst}
use Prim.Native.Nat.{ℕ, ◌<◌}
use native.Mathlib.Omega.{arith}
use Rattle.block.specs.Layout as L
use Rattle.ways.proofs.Filling.{apart}
use Rattle.ways.proofs.Leading.{few}
use Rattle.stages.specs.Stages.{TurnedTo}
use Rattle.stages.proofs.Turning.{turned_none, turned_next}
use Rattle.stages.proofs.stage.turn_over.Goals as goal
use Rattle.stages.proofs.stage.turn_over.Goals.{then-turn_place, else-turn_place}

pub loop-x-init : goal.loop-x-init
loop-x-init c = (omega arith, turned_none (L.states c.args.block.now) c.args.row.places c.args.ranks.now c.args.n c.args.board.now c.args.flags.now)

pub turn_place-requires : goal.turn_place-requires
turn_place-requires c = record { valid = c.requires.valid; playable = (c.requires.playable.0, c.loop-x.invariant.1.board_long ∙ c.requires.playable.1, c.requires.playable.2, c.loop-x.invariant.1.flags_long ∙ c.requires.playable.3); x_lt_places = c.loop-x-test.true }

pub overflow_step-x : goal.overflow_step-x
overflow_step-x c = omega (arith, c.loop-x-test.true)

pub loop-x-smaller : goal.loop-x-smaller
loop-x-smaller c = omega (arith, c.loop-x-test.true)

pub loop-x-preserved : goal.loop-x-preserved
loop-x-preserved c = let place : c.loop-x.x < 256 = omega (arith, c.loop-x-test.true, few c.args.block.now c.requires.valid c.args.row c.requires.playable.0) in (
  omega (arith, c.loop-x-test.true),
  turned_next (L.states c.args.block.now) c.args.row.places c.args.ranks.now c.args.n place c.loop-x.invariant.1 c.turn_place.ensures
      (λ e. elim c.if-turn_place.branch [
        | then-turn_place w ↦
            inr w.if-turn_place.true
        | else-turn_place w ↦
            inl (sym w.more-is ∙ e)
      ])
      (λ e. elim c.if-turn_place.branch [
        | then-turn_place w ↦
            absurd (apart c.if-turn_place.more w.more-is e)
        | else-turn_place w ↦
            (sym w.more-is ∙ e, w.if-turn_place.false)
      ]),
)

pub shape_of-board : goal.shape_of-board
shape_of-board c = c.loop-x.invariant.1.board_long

pub shape_of-flags : goal.shape_of-flags
shape_of-flags c = c.loop-x.invariant.1.flags_long

pub returns : goal.returns
returns c = let all : c.loop-x.x ≡ c.args.row.places = omega (arith, c.loop-x.invariant.0, c.loop-x-test.false) in
    subst (λ (m : ℕ). TurnedTo (L.states c.args.block.now) c.args.row.places c.args.ranks.now c.args.n m c.loop-x.more c.args.board.now c.args.flags.now c.loop-x.board c.loop-x.flags) all c.loop-x.invariant.1
