-- `store_ranks` stores one rank after another.
use mathlib.Core.Path.{subst}
use Prim.Native.Nat.{ℕ}
use native.Mathlib.Omega.{arith}
use Rattle.ways.specs.First.{SpanStored}
use Rattle.ways.proofs.Starting.{span_none, span_next}
use Rattle.ways.proofs.first.store_ranks.Goals as goal

pub loop-p-init : goal.loop-p-init
loop-p-init c = (omega arith, c.requires.0, span_none)

pub set_rank-requires : goal.set_rank-requires
set_rank-requires c = (omega (arith, c.requires.1, c.loop-p.invariant.2.long, c.loop-p-test.true), c.requires.2)

pub overflow_step-p : goal.overflow_step-p
overflow_step-p c = omega (arith, c.loop-p-test.true)

pub loop-p-smaller : goal.loop-p-smaller
loop-p-smaller c = omega (arith, c.loop-p-test.true)

pub loop-p-preserved : goal.loop-p-preserved
loop-p-preserved c = (omega (arith, c.loop-p.invariant.0), omega (arith, c.loop-p-test.true), span_next c.loop-p.invariant.0 c.loop-p.invariant.2 c.set_rank.ensures)

pub shape_of-ranks : goal.shape_of-ranks
shape_of-ranks c = c.loop-p.invariant.2.long

pub returns : goal.returns
returns c = subst (λ (p : ℕ). SpanStored c.args.first p c.args.rank c.args.ranks.now c.loop-p.ranks) {x = c.loop-p.p} {y = c.args.end} (omega (arith, c.loop-p.invariant.1, c.loop-p-test.false)) c.loop-p.invariant.2
