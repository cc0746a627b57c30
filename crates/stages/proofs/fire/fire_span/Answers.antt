-- `fire_span` touches one place of the span after another.
use mathlib.Core.List.{List}
use mathlib.Core.Logic.{◌⊎◌, inl, inr}
use mathlib.Core.Path.{◌≡◌, sym, subst₂}
use Prim.Native.Nat.{ℕ, ◌+◌, ◌≤◌, ◌<◌}
use native.Mathlib.Omega.{arith}
use Rattle.game.proofs.Numbers.Decide.{eq?}
use Rattle.stages.proofs.Evolving.{lent_still}
use Rattle.stages.proofs.Carrying.{Carried, carried_none, carried_one, carried_both, carried_narrow}
use Rattle.stages.proofs.fire.fire_span.Goals as goal
use Rattle.stages.proofs.fire.fire_span.Goals.{then-x-fire, else-x-fire}

pub overflow_add-end : goal.overflow_add-end
overflow_add-end c = omega (arith, c.requires.last_bound)

pub loop-x-init : goal.loop-x-init
loop-x-init c = carried_none c.args.block.now c.args.fire.row c.args.ways.now c.args.board.now c.args.fire.most c.args.fire.safe c.args.fire.stage c.args.fire.state c.args.fire.index c.args.fire.place c.args.ranks.now c.args.flags.now (λ x _ (from, below). omega arith)

pub touch-requires : goal.touch-requires
touch-requires c = record { valid = c.requires.valid; lent = lent_still c.args.block.now c.args.fire.row c.args.ways.now c.args.board.now c.args.fire.most c.args.fire.safe c.args.fire.stage c.requires.lent.small c.loop-x.invariant.evolved c.requires.lent; state_bound = c.requires.state_bound; x_lt_places = c.if-x-fire.true }

pub overflow_step-x : goal.overflow_step-x
overflow_step-x c = omega (arith, c.loop-x-test.true)

pub loop-x-smaller : goal.loop-x-smaller
loop-x-smaller c = omega (arith, c.loop-x-test.true)

pub loop-x-preserved : goal.loop-x-preserved
loop-x-preserved c = let After : List ℕ → List ℕ → Type 0 = λ ranks flags.
    Carried c.args.block.now c.args.fire.row c.args.ways.now c.args.board.now c.args.fire.most c.args.fire.safe c.args.fire.stage c.args.fire.state c.args.fire.index c.args.fire.place (λ z. (c.args.span.first ≤ z) × (z < c.loop-x.x + 1)) c.args.ranks.now c.args.flags.now ranks flags in
    elim c.if-x-fire.branch [
      | then-x-fire w ↦
          let here = carried_one c.args.block.now c.args.fire.row c.args.ways.now c.args.board.now c.args.fire.most c.args.fire.safe c.args.fire.stage c.args.fire.state c.args.fire.index c.args.fire.place c.loop-x.x w.touch.ensures.0 w.touch.ensures.1 in
          subst₂ After (sym w.ranks-is) (sym w.flags-is)
          (carried_both c.args.block.now c.args.fire.row c.args.ways.now c.args.board.now c.args.fire.most c.args.fire.safe c.args.fire.stage c.args.fire.state c.args.fire.index c.args.fire.place c.requires.valid.1.playable c.requires.lent.small c.requires.state_bound.0 c.requires.state_bound.3 (λ z _ (from, below). split c.args.span.first c.loop-x.x z from below (eq? z c.loop-x.x)) c.loop-x.invariant here)
      | else-x-fire w ↦
          subst₂ After (sym w.ranks-is) (sym w.flags-is)
          (carried_narrow c.args.block.now c.args.fire.row c.args.ways.now c.args.board.now c.args.fire.most c.args.fire.safe c.args.fire.stage c.args.fire.state c.args.fire.index c.args.fire.place (λ z place (from, below). (from, omega (arith, w.if-x-fire.false))) c.loop-x.invariant)
    ]
  where
    split : (first x z : ℕ) → first ≤ z → z < x + 1 → Dec (z ≡ x) → ((first ≤ z) × (z < x)) ⊎ (z ≡ x)
    split first x z from below (yes e) = inr e
    split first x z from below (no ne) = inl (from, omega arith)

pub shape_of-ranks : goal.shape_of-ranks
shape_of-ranks c = c.loop-x.invariant.evolved.ranks_long

pub shape_of-flags : goal.shape_of-flags
shape_of-flags c = c.loop-x.invariant.evolved.flags_long

pub returns : goal.returns
returns c = (c.loop-x.invariant.evolved, λ x from to_last place to. c.loop-x.invariant.past x place (from, omega (arith, c.loop-x-test.false)) to)
