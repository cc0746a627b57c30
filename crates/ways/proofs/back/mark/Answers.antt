-- `mark` goes over the states.
use mathlib.Core.Logic.{◌⊎◌, inl, inr}
use mathlib.Core.Path.{◌≡◌, ◌∙◌, subst}
use Prim.Native.Nat.{ℕ, ◌+◌, ◌<◌}
use native.Mathlib.Omega.{arith}
use Rattle.game.proofs.Numbers.Decide.{eq?}
use Rattle.ways.specs.Back.{LedIn}
use Rattle.ways.proofs.Marking.{marked_none, marked_both, marked_narrow}
use Rattle.ways.proofs.back.mark.Goals as goal

pub states-n-requires : goal.states-n-requires
states-n-requires c = c.requires.valid.sized.bytes

pub loop-s-init : goal.loop-s-init
loop-s-init c = (omega arith, marked_none _ (λ z (q, l, _). omega arith))

pub mark_state-requires : goal.mark_state-requires
mark_state-requires c = record { valid = c.requires.valid; playable = (c.requires.playable.0, c.requires.playable.1, c.loop-s.invariant.1.long ∙ c.requires.playable.2); s_bound = (omega (arith, c.states-n.ensures, c.loop-s-test.true), c.requires.x_lt_places) }

pub overflow_step-s : goal.overflow_step-s
overflow_step-s c = omega (arith, c.loop-s-test.true)

pub loop-s-smaller : goal.loop-s-smaller
loop-s-smaller c = omega (arith, c.loop-s-test.true)

pub loop-s-preserved : goal.loop-s-preserved
loop-s-preserved c = (omega (arith, c.loop-s-test.true), marked_both (λ z (q, l, led). split z q l led (eq? q c.loop-s.s)) c.loop-s.invariant.1 c.mark_state.ensures)
  where
    Here : ℕ → ℕ → Type 0
    Here z q = LedIn c.args.block.now c.args.row q c.args.x z

    split : (z q : ℕ) → q < c.loop-s.s + 1 → Here z q → Dec (q ≡ c.loop-s.s) → ((q' : ℕ) × (q' < c.loop-s.s) × Here z q') ⊎ Here z c.loop-s.s
    split z q l led (yes e) = inr (subst (Here z) e led)
    split z q l led (no ne) = inl (q, omega arith, led)

pub shape_of-flags : goal.shape_of-flags
shape_of-flags c = c.loop-s.invariant.1.long

pub returns : goal.returns
returns c = marked_narrow (λ z (q, l, led). (q, omega (arith, c.states-n.ensures, c.loop-s-test.false), led)) c.loop-s.invariant.1
