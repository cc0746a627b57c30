-- `first_staying` looks for a move that is paid and leads to nothing that is ranked.
use mathlib.Core.Bool.{true}
use Prim.Native.Nat.{◌≤◌, ◌<◌}
use native.Mathlib.Omega.{arith}
use Rattle.block.proofs.Decide as D
use Rattle.game.proofs.Numbers.Decide.{none_more}
use Rattle.ways.specs.Lines.{count_in}
use Rattle.stages.specs.Stages.{Stays}
use Rattle.stages.proofs.staying.first_staying.Goals as goal
use Rattle.stages.proofs.staying.first_staying.Lts as lts
use Rattle.stages.proofs.staying.first_staying.Reads as reads
use Rattle.stages.proofs.staying.first_staying.Tie as tie

abbrev At-In-loop-k : Type 0
At-In-loop-k = lts.In-loop tie.the-claims reads.Pre reads.Post goal.the-invariant-loop-k goal.the-decreases-loop-k tie.handed_clauses

pub count-n-requires : goal.count-n-requires
count-n-requires c = (c.requires.playable.1.long, omega (arith, c.requires.state_bound.0, c.requires.valid.sized.states_fit))

pub loop-k-init : goal.loop-k-init
loop-k-init c = (omega arith, omega (arith, c.count-n.ensures, c.requires.state_bound.2), λ j less (from, _). omega arith)

more : (c : At-In-loop-k) → c.loop-k.k < count_in c.args.ways.now c.args.spot.state true
more c = omega (arith, c.loop-k-test.true, c.count-n.ensures)

pub stays-requires : goal.stays-requires
stays-requires c = record { valid = c.requires.valid; playable = c.requires.playable; state_bound = (c.requires.state_bound.0, c.requires.state_bound.1, more c.before) }

pub returns-then-stays : goal.returns-then-stays
returns-then-stays c = (c.loop-k.invariant.0, more c.before.before.before, D.truth c.stays.ensures c.if-stays.true, λ j from less stays. c.loop-k.invariant.2 j less (from, stays))

pub overflow_step-k : goal.overflow_step-k
overflow_step-k c = omega (arith, c.loop-k-test.true)

pub loop-k-smaller : goal.loop-k-smaller
loop-k-smaller c = omega (arith, c.loop-k-test.true)

pub loop-k-preserved : goal.loop-k-preserved
loop-k-preserved c = (
  omega (arith, c.loop-k.invariant.0),
  omega (arith, c.loop-k-test.true),
  none_more (λ j. (c.args.from ≤ j) × Stays c.args.block.now c.args.row c.args.ways.now c.args.board.now c.args.spot.state c.args.spot.place j) c.loop-k.k c.loop-k.invariant.2 (λ (_, stays). D.falsity c.stays.ensures c.if-stays.false stays),
)

pub returns : goal.returns
returns c = λ j from small stays. c.loop-k.invariant.2 j (omega (arith, c.loop-k-test.false, c.count-n.ensures)) (from, stays)
