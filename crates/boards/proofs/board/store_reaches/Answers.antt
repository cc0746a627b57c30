-- `store_reaches` stores the word of one state after another.
use mathlib.Core.Bool.{true}
use mathlib.Core.Path.{refl, ◌∙◌}
use Prim.Native.Nat.{◌<◌}
use native.Mathlib.Omega.{arith}
use Rattle.block.specs.Layout as L
use Rattle.boards.proofs.Gathering.{reaches_next}
use Rattle.boards.proofs.board.store_reaches.Goals as goal
use Rattle.boards.proofs.board.store_reaches.Lts as lts
use Rattle.boards.proofs.board.store_reaches.Reads as reads
use Rattle.boards.proofs.board.store_reaches.Tie as tie

abbrev At-In-loop-s : Type 0
At-In-loop-s = lts.In-loop tie.the-claims reads.Pre reads.Post goal.the-invariant-loop-s goal.the-decreases-loop-s tie.handed_clauses

pub states-n-requires : goal.states-n-requires
states-n-requires c = c.requires.valid.sized.bytes

pub loop-s-init : goal.loop-s-init
loop-s-init c = (omega arith, (λ s k q less. absurd (omega arith)), (λ i _. refl), refl)

-- the state of this turn
module _ (c : At-In-loop-s) where
  state : c.loop-s.s < L.states c.args.block.now
  state = omega (arith, c.loop-s-test.true, c.states-n.ensures)

  within : c.loop-s.s < 24
  within = omega (arith, state, c.requires.valid.sized.states_fit)

pub reach_of-w-requires : goal.reach_of-w-requires
reach_of-w-requires c = (c.requires.playable.1.long, ((c.requires.playable.1.states c.loop-s.s (state c.before)).lines true).few, c.loop-s.invariant.3 ∙ c.requires.playable.2, within c.before)

pub overflow_add-s : goal.overflow_add-s
overflow_add-s c = record { fits = omega (arith, within c.before.before.before) }

pub set_narrow-requires : goal.set_narrow-requires
set_narrow-requires c = (omega (arith, within c.before.before.before, c.loop-s.invariant.3, c.requires.playable.2), c.reach_of-w.ensures.1)

pub overflow_step-s : goal.overflow_step-s
overflow_step-s c = omega (arith, c.loop-s-test.true)

pub loop-s-smaller : goal.loop-s-smaller
loop-s-smaller c = omega (arith, c.loop-s-test.true)

pub loop-s-preserved : goal.loop-s-preserved
loop-s-preserved c = (
  omega (arith, c.loop-s-test.true),
  reaches_next c.args.block.now c.requires.valid c.args.row c.args.ways.now c.requires.playable.1 c.loop-s.s (state c.before.before.before.before.before.before) c.loop-s.board c.set_narrow.new.sets _ c.reach_of-w.ensures.0 c.set_narrow.ensures c.loop-s.invariant.1,
  (λ i less. c.set_narrow.ensures.others i (λ e. omega arith) ∙ c.loop-s.invariant.2 i less),
  c.set_narrow.ensures.kept ∙ c.loop-s.invariant.3,
)

pub shape_of-board : goal.shape_of-board
shape_of-board c = c.loop-s.invariant.3

pub returns : goal.returns
returns c = record { by_index = (λ s k q less. c.loop-s.invariant.1 s k q (omega (arith, c.loop-s-test.false, c.states-n.ensures))); by_index_2 = (c.loop-s.invariant.2, c.loop-s.invariant.3) }
