-- `reach_of` takes the sets of one move after another together.
use native.Mathlib.Omega.{arith}
use Rattle.boards.proofs.Words.{joined_none, joined_next}
use Rattle.boards.specs.Boards.{to_in}
use Rattle.boards.proofs.board.reach_of.Goals as goal

pub count-n-requires : goal.count-n-requires
count-n-requires c = (c.requires.0, c.requires.3)

pub loop-k-init : goal.loop-k-init
loop-k-init c = (omega arith, joined_none _)

pub to_at-w-requires : goal.to_at-w-requires
to_at-w-requires c = (c.requires.2, c.requires.3, omega (arith, c.loop-k-test.true, c.count-n.ensures, c.requires.1))

pub overflow_step-k : goal.overflow_step-k
overflow_step-k c = omega (arith, c.loop-k-test.true)

pub loop-k-smaller : goal.loop-k-smaller
loop-k-smaller c = omega (arith, c.loop-k-test.true)

pub loop-k-preserved : goal.loop-k-preserved
loop-k-preserved c = (omega (arith, c.loop-k-test.true), joined_next (to_in c.args.board.now c.args.s) c.loop-k.invariant.1 c.to_at-w.ensures.0 c.to_at-w.ensures.1)

pub returns : goal.returns
returns c = ((λ k q less. c.loop-k.invariant.1.each k q (omega (arith, less, c.loop-k-test.false, c.count-n.ensures))), c.loop-k.invariant.1.short)
