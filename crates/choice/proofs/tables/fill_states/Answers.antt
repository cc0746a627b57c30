-- `fill_states` fills one state after another.
use mathlib.Core.Path.{◌≡◌, refl, ◌∙◌, subst}
use Prim.Native.Nat.{ℕ, ◌*◌}
use native.Mathlib.Omega.{arith}
use Rattle.block.specs.Layout as L
use Rattle.choice.specs.Filling.{byte_in, FilledTo, MoveRight}
use Rattle.choice.proofs.Filling.{states_first}
use Rattle.choice.proofs.tables.fill_states.Goals as goal

pub loop-s-init : goal.loop-s-init
loop-s-init c = (omega arith, states_first c.args.row.places c.requires.filled_to, refl)

pub fill_places-requires : goal.fill_places-requires
fill_places-requires c = record { valid = c.requires.valid; sought = (c.requires.sought.0, c.requires.sought.1, c.requires.sought.2, c.loop-s.invariant.2 ∙ c.requires.sought.3); s_bound = (omega (arith, c.loop-s-test.true, c.states-n.ensures), c.loop-s.invariant.1) }

pub overflow_step-s : goal.overflow_step-s
overflow_step-s c = omega (arith, c.loop-s-test.true)

pub loop-s-smaller : goal.loop-s-smaller
loop-s-smaller c = omega (arith, c.loop-s-test.true)

pub loop-s-preserved : goal.loop-s-preserved
loop-s-preserved c = (omega (arith, c.loop-s-test.true), c.fill_places.ensures.filled_to, c.fill_places.ensures.moves_len_unchanged ∙ c.loop-s.invariant.2)

pub shape_of-moves : goal.shape_of-moves
shape_of-moves c = c.loop-s.invariant.2

pub returns : goal.returns
returns c = let all : c.loop-s.s ≡ L.states c.args.block.now = omega (arith, c.loop-s-test.false, c.loop-s.invariant.0, c.states-n.ensures) in
    record { filled_to_2 = subst (λ (n : ℕ). FilledTo byte_in (MoveRight c.args.block.now c.args.row.index c.args.row.set c.args.ranks.now) (n * c.args.row.places) c.loop-s.moves) all c.loop-s.invariant.1; moves_len_unchanged = c.loop-s.invariant.2 }
