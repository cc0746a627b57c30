-- `worst_at` goes on from the rank where the first reply leads until one is past the limit.
use mathlib.Core.Bool.{false}
use mathlib.Core.Logic.{⊎_elim}
use mathlib.Core.Path.{◌≡◌, subst}
use Prim.Native.Nat.{ℕ, ◌<◌}
use native.Mathlib.Omega.{arith}
use Rattle.block.proofs.Decide as D
use Rattle.ways.specs.Extremes.{Extreme, BestOf}
use Rattle.ways.specs.Landing.{rank_after, WorstWithin}
use Rattle.ways.specs.Lines.{count_in}
use Rattle.ways.proofs.Largest.{extreme_first, extreme_next, best_early}
use Rattle.ways.proofs.Leading.{some_reply, best_worst}
use Rattle.ways.proofs.worst.worst_at.Goals as goal
use Rattle.ways.proofs.worst.worst_at.Lts as lts
use Rattle.ways.proofs.worst.worst_at.Reads as reads
use Rattle.ways.proofs.worst.worst_at.Tie as tie

abbrev At-After-rank_after-best : Type 0
At-After-rank_after-best = lts.After-rank_after tie.the-claims reads.Pre reads.Post goal.the-invariant-loop-k goal.the-decreases-loop-k tie.handed_clauses

abbrev At-Start : Type 0
At-Start = lts.Start tie.the-claims reads.Pre reads.Post goal.the-invariant-loop-k goal.the-decreases-loop-k tie.handed_clauses

module _ (start : At-Start) where
  some : 0 < count_in start.args.ways.now start.args.step.state false
  some = some_reply start.args.block.now start.requires.valid start.args.row start.requires.playable.0 start.args.step.state start.args.ways.now start.requires.made.0 (start.requires.playable.1.states start.args.step.state start.requires.made.0)

  worst : (v : ℕ) → BestOf start.args.limit.most (count_in start.args.ways.now start.args.step.state false) (rank_after start.args.block.now start.args.row start.args.ways.now start.args.ranks.now start.args.step.state start.args.step.number start.args.step.place) start.args.limit.rank v
      → WorstWithin start.args.block.now start.args.row start.args.ranks.now start.args.step.state start.args.step.number start.args.step.place start.args.limit.most start.args.limit.rank v
  worst v = best_worst start.args.block.now start.requires.valid start.args.row start.requires.playable.0 start.args.step.state start.args.step.number start.args.step.place start.requires.made start.args.ways.now (start.requires.playable.1.states start.args.step.state start.requires.made.0) start.args.ranks.now start.args.limit.most start.args.limit.rank v

pub rank_after-best-requires : goal.rank_after-best-requires
rank_after-best-requires c = record { valid = c.requires.valid; playable = c.requires.playable; made = (c.requires.made, some c.before.before.before.before) }

-- the first reply's rank is the extreme of one
first : (c : At-After-rank_after-best) → Extreme c.args.limit.most 1 (rank_after c.args.block.now c.args.row c.args.ways.now c.args.ranks.now c.args.step.state c.args.step.number c.args.step.place) c.rank_after-best.result
first c =
    extreme_first c.args.limit.most (rank_after c.args.block.now c.args.row c.args.ways.now c.args.ranks.now c.args.step.state c.args.step.number c.args.step.place) c.rank_after-best.result c.rank_after-best.ensures.0

pub returns-then-beyond : goal.returns-then-beyond
returns-then-beyond c = record {
  worst_within = worst c.before.before.before.before.before.before.before c.args.limit.rank
      (best_early c.args.limit.most (rank_after c.args.block.now c.args.row c.args.ways.now c.args.ranks.now c.args.step.state c.args.step.number c.args.step.place) 1 (count_in c.args.ways.now c.args.step.state false) c.rank_after-best.result c.args.limit.rank (some c.before.before.before.before.before.before.before) (first c.before.before.before)
      (D.truth c.beyond.ensures c.if-beyond.true));
  upper_bound = λ small. small;
}

pub count-n-requires : goal.count-n-requires
count-n-requires c = (c.requires.playable.1.long, omega (arith, c.requires.made.0, c.requires.valid.sized.states_fit))

pub loop-k-init : goal.loop-k-init
loop-k-init c = ((omega arith, omega (arith, c.count-n.ensures, some c.before.before.before.before.before.before.before.before)), first c.before.before.before.before, c.rank_after-best.ensures.1)

pub returns-then-beyond-2 : goal.returns-then-beyond-2
returns-then-beyond-2 c = record {
  worst_within = worst c.before.before.before.before.before.before.before.before.before.before.before.before c.args.limit.rank
      (best_early c.args.limit.most (rank_after c.args.block.now c.args.row c.args.ways.now c.args.ranks.now c.args.step.state c.args.step.number c.args.step.place) c.loop-k.k (count_in c.args.ways.now c.args.step.state false) c.loop-k.best c.args.limit.rank (omega (arith, c.loop-k-test.true, c.count-n.ensures)) c.loop-k.invariant.1
      (D.truth c.beyond-in-loop-k.ensures c.if-beyond-2.true));
  upper_bound = λ small. small;
}

pub rank_after-requires : goal.rank_after-requires
rank_after-requires c = record { valid = c.requires.valid; playable = c.requires.playable; made = (c.requires.made, omega (arith, c.loop-k-test.true, c.count-n.ensures)) }

pub overflow_step-k : goal.overflow_step-k
overflow_step-k c = omega arith

pub loop-k-smaller : goal.loop-k-smaller
loop-k-smaller c = omega (arith, c.loop-k-test.true)

pub loop-k-preserved : goal.loop-k-preserved
loop-k-preserved c = (
  (omega (arith, c.loop-k.invariant.0), omega (arith, c.loop-k-test.true)),
  extreme_next c.args.limit.most (rank_after c.args.block.now c.args.row c.args.ways.now c.args.ranks.now c.args.step.state c.args.step.number c.args.step.place) c.loop-k.k c.rank_after.result c.loop-k.best c.further-best.result
      c.rank_after.ensures.0 c.loop-k.invariant.1 c.further-best.ensures,
  ⊎_elim (λ (e : c.further-best.result ≡ c.rank_after.result). omega (arith, c.rank_after.ensures.1)) (λ (e : c.further-best.result ≡ c.loop-k.best). omega (arith, c.loop-k.invariant.2)) c.further-best.ensures.taken,
)

pub returns : goal.returns
returns c = let all : c.loop-k.k ≡ count_in c.args.ways.now c.args.step.state false = omega (arith, c.loop-k.invariant.0, c.loop-k-test.false, c.count-n.ensures) in record {
  worst_within = worst c.before.before.before.before.before.before.before.before.before.before.before.before c.further.result (record {
    worst = c.loop-k.best;
    extreme = subst (λ (n : ℕ). Extreme c.args.limit.most n (rank_after c.args.block.now c.args.row c.args.ways.now c.args.ranks.now c.args.step.state c.args.step.number c.args.step.place) c.loop-k.best) all c.loop-k.invariant.1;
    further = c.further.ensures;
  });
  upper_bound = λ small. ⊎_elim (λ (e : c.further.result ≡ c.loop-k.best). omega (arith, c.loop-k.invariant.2)) (λ (e : c.further.result ≡ c.args.limit.rank). omega arith) c.further.ensures.taken;
}
