-- `finish` goes through the words.
use mathlib.Core.Path.{sym, subst}
use Prim.Native.Nat.{ℕ, ◌+◌}
use native.Mathlib.Omega.{arith}
use Rattle.stages.specs.Solving.{Finished}
use Rattle.stages.proofs.Starting.{finished_none, finished_stays, finished_next}
use Rattle.stages.proofs.start.finish.Goals as goal
use Rattle.stages.proofs.start.finish.Goals.{then-rank_at-ge-HOLD, else-rank_at-ge-HOLD}

pub loop-p-init : goal.loop-p-init
loop-p-init c = (omega arith, finished_none)

pub rank_at-requires : goal.rank_at-requires
rank_at-requires c = omega (arith, c.requires, c.loop-p.invariant.1.long, c.loop-p-test.true)

pub set_rank-requires : goal.set_rank-requires
set_rank-requires c = (omega (arith, c.requires, c.loop-p.invariant.1.long, c.loop-p-test.true), omega arith)

pub overflow_step-p : goal.overflow_step-p
overflow_step-p c = omega (arith, c.loop-p-test.true)

pub loop-p-smaller : goal.loop-p-smaller
loop-p-smaller c = omega (arith, c.loop-p-test.true)

pub loop-p-preserved : goal.loop-p-preserved
loop-p-preserved c = (
  omega (arith, c.loop-p-test.true),
  elim c.if-rank_at-ge-HOLD.branch [
    | then-rank_at-ge-HOLD w ↦
        subst (Finished (c.loop-p.p + 1) c.args.ranks.now) (sym w.ranks-is) (finished_next c.loop-p.invariant.1 (omega (arith, c.rank_at.ensures.0, w.if-rank_at-ge-HOLD.true)) w.set_rank.ensures)
    | else-rank_at-ge-HOLD w ↦
        subst (Finished (c.loop-p.p + 1) c.args.ranks.now) (sym w.ranks-is) (finished_stays c.loop-p.invariant.1 (omega (arith, c.rank_at.ensures.0, w.if-rank_at-ge-HOLD.false)))
  ],
)

pub shape_of-ranks : goal.shape_of-ranks
shape_of-ranks c = c.loop-p.invariant.1.long

pub returns : goal.returns
returns c = subst (λ (p : ℕ). Finished p c.args.ranks.now c.loop-p.ranks) {x = c.loop-p.p} {y = c.args.positions} (omega (arith, c.loop-p.invariant.0, c.loop-p-test.false)) c.loop-p.invariant.1
