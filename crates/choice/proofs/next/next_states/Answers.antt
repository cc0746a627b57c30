-- `next_states` fills one state after another.
use mathlib.Core.Path.{◌≡◌, refl, ◌∙◌, subst}
use Prim.Native.Nat.{ℕ, ◌*◌}
use native.Mathlib.Omega.{arith}
use Rattle.block.specs.Layout as L
use Rattle.turns.specs.Buffers.{rank_in}
use Rattle.choice.specs.Filling.{FilledTo, NextRight}
use Rattle.choice.proofs.Filling.{states_first}
use Rattle.choice.proofs.next.next_states.Goals as goal

pub loop-s-init : goal.loop-s-init
loop-s-init c = (omega arith, states_first c.args.row.places c.requires.filled_to, refl)

pub next_places-requires : goal.next_places-requires
next_places-requires c = record { valid = c.requires.valid; playable = (c.requires.playable.0, c.requires.playable.1, c.requires.playable.2, c.loop-s.invariant.2 ∙ c.requires.playable.3); s_bound = (omega (arith, c.loop-s-test.true, c.states-n.ensures), c.loop-s.invariant.1) }

pub overflow_step-s : goal.overflow_step-s
overflow_step-s c = omega (arith, c.loop-s-test.true)

pub loop-s-smaller : goal.loop-s-smaller
loop-s-smaller c = omega (arith, c.loop-s-test.true)

pub loop-s-preserved : goal.loop-s-preserved
loop-s-preserved c = (omega (arith, c.loop-s-test.true), c.next_places.ensures.filled_to, c.next_places.ensures.ranks_len_unchanged ∙ c.loop-s.invariant.2)

pub shape_of-ranks : goal.shape_of-ranks
shape_of-ranks c = c.loop-s.invariant.2

pub returns : goal.returns
returns c = let all : c.loop-s.s ≡ L.states c.args.block.now = omega (arith, c.loop-s-test.false, c.loop-s.invariant.0, c.states-n.ensures) in
    record { filled_to_2 = subst (λ (n : ℕ). FilledTo rank_in (NextRight c.args.block.now c.args.row.index c.args.row.set) (n * c.args.row.places) c.loop-s.ranks) all c.loop-s.invariant.1; ranks_len_unchanged = c.loop-s.invariant.2 }
