-- `complement` takes each state that is not in the set.
use mathlib.Core.Path.{◌≡◌, sym, subst}
use Prim.Native.Nat.{ℕ, ◌+◌}
use native.Mathlib.Omega.{arith}
use Rattle.block.specs.Layout as L
use Rattle.block.proofs.Decide as D
use Rattle.solver.proofs.Words.{SaysBelow, longer, says_none, says_with, says_skip, says_all}
use Rattle.solver.proofs.rows.complement.Goals as goal
use Rattle.solver.proofs.rows.complement.Goals.{then-not-has_bit, else-not-has_bit}
use Rattle.solver.proofs.rows.complement.Invariants.{Misses}

pub states-n-requires : goal.states-n-requires
states-n-requires c = omega (arith, c.requires.sized.bytes)

pub loop-s-init : goal.loop-s-init
loop-s-init c = (omega arith, says_none (Misses c.args.set))

pub has_bit-requires : goal.has_bit-requires
has_bit-requires c = omega (arith, c.loop-s-test.true, c.states-n.ensures, c.requires.sized.states_fit)

pub with_bit-w-requires : goal.with_bit-w-requires
with_bit-w-requires c = (omega (arith, c.loop-s-test.true, c.states-n.ensures, c.requires.sized.states_fit), longer _ c.loop-s.invariant.1 32 (omega (arith, c.loop-s-test.true, c.states-n.ensures, c.requires.sized.states_fit)))

pub overflow_step-s : goal.overflow_step-s
overflow_step-s c = omega arith

pub loop-s-smaller : goal.loop-s-smaller
loop-s-smaller c = omega arith

pub loop-s-preserved : goal.loop-s-preserved
loop-s-preserved c = (
  omega (arith, c.loop-s-test.true),
  elim c.if-not-has_bit.branch [
    | then-not-has_bit w ↦
        subst (SaysBelow (Misses c.args.set) (c.loop-s.s + 1)) (sym w.w-is) (says_with (Misses c.args.set) c.loop-s.s c.loop-s.w w.with_bit-w.result c.loop-s.invariant.1 (D.falsity c.has_bit.ensures w.if-not-has_bit.true) w.with_bit-w.ensures)
    | else-not-has_bit w ↦
        subst (SaysBelow (Misses c.args.set) (c.loop-s.s + 1)) (sym w.w-is) (says_skip (Misses c.args.set) c.loop-s.s c.loop-s.w c.loop-s.invariant.1 (λ misses. misses (D.truth c.has_bit.ensures w.if-not-has_bit.false)))
  ],
)

pub returns : goal.returns
returns c = let all : c.loop-s.s ≡ L.states c.args.block.now = omega (arith, c.loop-s.invariant.0, c.loop-s-test.false, c.states-n.ensures) in
    says_all (Misses c.args.set) c.args.block.now c.loop-s.w c.requires.sized.states_fit.1 (subst (λ (s : ℕ). SaysBelow (Misses c.args.set) s c.loop-s.w) all c.loop-s.invariant.1)
