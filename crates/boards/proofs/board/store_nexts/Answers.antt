-- `store_nexts` stores the words of one state after another.
use mathlib.Core.Path.{refl, ◌∙◌}
use Prim.Native.Nat.{◌<◌}
use native.Mathlib.Omega.{arith}
use Rattle.block.specs.Layout as L
use Rattle.boards.proofs.Gathering.{nexts_next}
use Rattle.boards.proofs.board.store_nexts.Goals as goal
use Rattle.boards.proofs.board.store_nexts.Lts as lts
use Rattle.boards.proofs.board.store_nexts.Reads as reads
use Rattle.boards.proofs.board.store_nexts.Tie as tie

abbrev At-In-loop-s : Type 0
At-In-loop-s = lts.In-loop tie.the-claims reads.Pre reads.Post goal.the-invariant-loop-s goal.the-decreases-loop-s tie.handed_clauses

pub states-n-requires : goal.states-n-requires
states-n-requires c = c.requires.valid.sized.bytes

pub loop-s-init : goal.loop-s-init
loop-s-init c = (omega arith, (λ s k less. absurd (omega arith)), refl)

state : (c : At-In-loop-s) → c.loop-s.s < L.states c.args.block.now
state c = omega (arith, c.loop-s-test.true, c.states-n.ensures)

pub store_state-requires : goal.store_state-requires
store_state-requires c = record { valid = c.requires.valid; playable = (c.requires.playable.0, c.requires.playable.1); s_bound = (state c.before.before, c.loop-s.invariant.2 ∙ c.requires.playable.2) }

pub overflow_step-s : goal.overflow_step-s
overflow_step-s c = omega (arith, c.loop-s-test.true)

pub loop-s-smaller : goal.loop-s-smaller
loop-s-smaller c = omega (arith, c.loop-s-test.true)

pub loop-s-preserved : goal.loop-s-preserved
loop-s-preserved c = (
  omega (arith, c.loop-s-test.true),
  nexts_next c.args.block.now c.args.row c.args.ways.now c.requires.playable.1 c.loop-s.s (state c.before.before.before.before.before) c.loop-s.board c.store_state.new.board c.store_state.ensures.by_index c.store_state.ensures.by_index_2.0 c.loop-s.invariant.1,
  c.store_state.ensures.by_index_2.1 ∙ c.loop-s.invariant.2,
)

pub shape_of-board : goal.shape_of-board
shape_of-board c = c.loop-s.invariant.2

pub returns : goal.returns
returns c = record { by_index = (λ s k less small. c.loop-s.invariant.1 s k (omega (arith, c.loop-s-test.false, c.states-n.ensures)) small); board_len_unchanged = c.loop-s.invariant.2 }
