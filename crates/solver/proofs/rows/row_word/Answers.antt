-- `row_word` takes each state in which the row is true.
use mathlib.Core.Path.{◌≡◌, sym, subst}
use Prim.Native.Nat.{ℕ, ◌+◌}
use native.Mathlib.Omega.{arith}
use Rattle.block.specs.Layout as L
use Rattle.block.proofs.Decide as D
use Rattle.solver.specs.Inner.Rows.{TrueBy}
use Rattle.solver.proofs.Words.{SaysBelow, longer, says_none, says_with, says_skip, says_all}
use Rattle.solver.proofs.rows.row_word.Goals as goal
use Rattle.solver.proofs.rows.row_word.Goals.{then-true_at, else-true_at}

pub states-n-requires : goal.states-n-requires
states-n-requires c = omega (arith, c.requires.valid.sized.bytes)

pub loop-s-init : goal.loop-s-init
loop-s-init c = (omega arith, says_none (TrueBy c.args.block.now c.args.i c.args.left c.args.right c.args.ranks.now))

pub true_at-requires : goal.true_at-requires
true_at-requires c = record { valid = c.requires.valid; i_bound = (c.requires.i_bound.0, omega (arith, c.loop-s-test.true, c.states-n.ensures), c.requires.i_bound.1) }

pub with_bit-w-requires : goal.with_bit-w-requires
with_bit-w-requires c = (omega (arith, c.loop-s-test.true, c.states-n.ensures, c.requires.valid.sized.states_fit), longer _ c.loop-s.invariant.1 32 (omega (arith, c.loop-s-test.true, c.states-n.ensures, c.requires.valid.sized.states_fit)))

pub overflow_step-s : goal.overflow_step-s
overflow_step-s c = omega arith

pub loop-s-smaller : goal.loop-s-smaller
loop-s-smaller c = omega arith

pub loop-s-preserved : goal.loop-s-preserved
loop-s-preserved c = let Q = TrueBy c.args.block.now c.args.i c.args.left c.args.right c.args.ranks.now in (
  omega (arith, c.loop-s-test.true),
  elim c.if-true_at.branch [
    | then-true_at w ↦
        subst (SaysBelow Q (c.loop-s.s + 1)) (sym w.w-is) (says_with Q c.loop-s.s c.loop-s.w w.with_bit-w.result c.loop-s.invariant.1 (D.truth c.true_at.ensures w.if-true_at.true) w.with_bit-w.ensures)
    | else-true_at w ↦
        subst (SaysBelow Q (c.loop-s.s + 1)) (sym w.w-is) (says_skip Q c.loop-s.s c.loop-s.w c.loop-s.invariant.1 (D.falsity c.true_at.ensures w.if-true_at.false))
  ],
)

pub returns : goal.returns
returns c = let Q = TrueBy c.args.block.now c.args.i c.args.left c.args.right c.args.ranks.now in
    let all : c.loop-s.s ≡ L.states c.args.block.now = omega (arith, c.loop-s.invariant.0, c.loop-s-test.false, c.states-n.ensures) in
    says_all Q c.args.block.now c.loop-s.w c.requires.valid.sized.states_fit.1 (subst (λ (s : ℕ). SaysBelow Q s c.loop-s.w) all c.loop-s.invariant.1)
