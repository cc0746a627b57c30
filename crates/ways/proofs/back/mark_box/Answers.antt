-- `mark_box` flags one line of places after another.
use mathlib.Core.Logic.{◌⊎◌, inl, inr}
use mathlib.Core.Path.{◌≡◌, ◌∙◌, ap}
use Prim.Native.Nat.{ℕ, ◌+◌, ◌*◌, ◌≤◌, ◌<◌}
use native.Mathlib.Nat.{mul-le-mul, suc-mul}
use native.Mathlib.Omega.{arith}
use Rattle.game.proofs.Numbers.Decide.{eq?}
use Rattle.ways.specs.Back.{InSpan}
use Rattle.ways.proofs.Marking.{marked_none, marked_both, marked_narrow}
use Rattle.ways.proofs.back.mark_box.Goals as goal
use Rattle.ways.proofs.back.mark_box.Invariants.{Before}
use Rattle.ways.proofs.back.mark_box.Lts as lts
use Rattle.ways.proofs.back.mark_box.Reads as reads
use Rattle.ways.proofs.back.mark_box.Tie as tie

abbrev At-In-loop-a : Type 0
At-In-loop-a = lts.In-loop tie.the-claims reads.Pre reads.Post goal.the-invariant-loop-a goal.the-decreases-loop-a

pub overflow_add-end : goal.overflow_add-end
overflow_add-end c = omega (arith, c.requires.0)

pub loop-a-init : goal.loop-a-init
loop-a-init c = marked_none _ (λ z (x, h, e, (from, below), _). omega arith)

-- a line ends before the flags do
line_ends : (c : At-In-loop-a) → c.loop-a.a * c.args.width + c.args.width ≤ 256
line_ends c =
    let lines : c.loop-a.a + 1 ≤ 16 = omega (arith, c.requires.0, c.loop-a-test.true) in
    let whole : (c.loop-a.a + 1) * c.args.width ≤ 16 * 16 = mul-le-mul lines c.requires.2 in
    omega (arith, suc-mul c.loop-a.a c.args.width)

pub overflow_mul-a : goal.overflow_mul-a
overflow_mul-a c = omega (arith, line_ends c.before)

pub overflow_add-a : goal.overflow_add-a
overflow_add-a c = omega (arith, line_ends c.before.before, c.requires.4)

pub overflow_mul-a-in-loop-a : goal.overflow_mul-a-in-loop-a
overflow_mul-a-in-loop-a c = omega (arith, line_ends c.before.before)

pub overflow_add-a-in-loop-a : goal.overflow_add-a-in-loop-a
overflow_add-a-in-loop-a c = omega (arith, line_ends c.before.before.before, c.requires.1)

pub overflow_add-a-in-loop-a-2 : goal.overflow_add-a-in-loop-a-2
overflow_add-a-in-loop-a-2 c = omega (arith, line_ends c.before.before.before, c.requires.1)

pub mark_line-requires : goal.mark_line-requires
mark_line-requires c = omega (arith, line_ends c.before.before.before, c.requires.1, c.requires.3, c.loop-a.invariant.long)

pub overflow_step-a : goal.overflow_step-a
overflow_step-a c = omega (arith, c.loop-a-test.true)

pub loop-a-smaller : goal.loop-a-smaller
loop-a-smaller c = omega (arith, c.loop-a-test.true)

pub loop-a-preserved : goal.loop-a-preserved
loop-a-preserved c = marked_both (λ z (x, h, e, from, span). split z x h e from span (eq? x c.loop-a.a)) c.loop-a.invariant c.mark_line.ensures
  where
    split : (z x h : ℕ) → z ≡ x * c.args.width + h → (c.args.low.first ≤ x) × (x < c.loop-a.a + 1) → InSpan c.args.high h → Dec (x ≡ c.loop-a.a)
        → Before c.args.low.first c.args.high c.args.width c.loop-a.a z ⊎ ((c.loop-a.a * c.args.width + c.args.high.first ≤ z) × (z < c.loop-a.a * c.args.width + c.args.high.last + 1))
    split z x h e from span (yes here) = let at : z ≡ c.loop-a.a * c.args.width + h = e ∙ ap (λ (y : ℕ). y * c.args.width + h) here in inr (omega arith, omega arith)
    split z x h e from span (no other) = inl (x, h, e, (from.0, omega arith), span)

pub shape_of-flags : goal.shape_of-flags
shape_of-flags c = c.loop-a.invariant.long

pub returns : goal.returns
returns c = marked_narrow (λ z (x, h, e, (from, to), span). (x, h, e, (from, omega (arith, c.loop-a-test.false)), span)) c.loop-a.invariant
