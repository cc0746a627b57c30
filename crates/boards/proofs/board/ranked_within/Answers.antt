-- `ranked_within` gathers the states whose rank is in the range.
use mathlib.Core.Path.{◌≡◌, sym, subst}
use Prim.Native.Nat.{ℕ, ◌+◌, ◌*◌, ◌≤◌, ◌<◌}
use native.Mathlib.Omega.{arith}
use Rattle.block.specs.Layout as L
use Rattle.block.specs.Inner.Tests.{Decides}
use Rattle.block.proofs.Decide as D
use Rattle.ways.proofs.Leading.{number_inside}
use Rattle.boards.proofs.Gathering.{Gathers, Below, Within, below_none, below_with, below_skip, below_ranked}
use Rattle.boards.proofs.board.ranked_within.Goals as goal
use Rattle.boards.proofs.board.ranked_within.Goals.{then-between, else-between}
use Rattle.boards.proofs.board.ranked_within.Lts as lts
use Rattle.boards.proofs.board.ranked_within.Reads as reads
use Rattle.boards.proofs.board.ranked_within.Tie as tie

abbrev At-In-loop-s : Type 0
At-In-loop-s = lts.In-loop tie.the-claims reads.Pre reads.Post goal.the-invariant-loop-s goal.the-decreases-loop-s tie.handed_clauses

pub states-states-requires : goal.states-states-requires
states-states-requires c = c.requires.valid.sized.bytes

pub loop-s-init : goal.loop-s-init
loop-s-init c = (omega arith, below_none (Within c.args.row.places c.args.ranks.now c.args.x c.args.low c.args.end))

-- the state, and its position at the place
module _ (c : At-In-loop-s) where
  state : c.loop-s.s < L.states c.args.block.now
  state = omega (arith, c.loop-s-test.true, c.states-states.ensures)

  inside : c.loop-s.s * c.args.row.places + c.args.x < 6144
  inside =
      number_inside c.args.block.now c.requires.valid c.args.row c.requires.playable.0 c.loop-s.s c.args.x state c.requires.playable.2

pub overflow_mul-s : goal.overflow_mul-s
overflow_mul-s c = record { fits = omega (arith, inside c.before) }

pub overflow_add-s : goal.overflow_add-s
overflow_add-s c = record { fits = omega (arith, inside c.before) }

pub rank_at-requires : goal.rank_at-requires
rank_at-requires c = omega (arith, inside c.before, c.requires.playable.1)

pub with_bit-w-requires : goal.with_bit-w-requires
with_bit-w-requires c = (omega (arith, state c.before.before.before.before, c.requires.valid.sized.states_fit), omega (arith, c.loop-s.invariant.1.short))

pub overflow_step-s : goal.overflow_step-s
overflow_step-s c = omega (arith, c.loop-s-test.true)

pub loop-s-smaller : goal.loop-s-smaller
loop-s-smaller c = omega (arith, c.loop-s-test.true)

pub loop-s-preserved : goal.loop-s-preserved
loop-s-preserved c = let told = subst (λ (r : ℕ). Decides ((c.args.low ≤ r) × (r < c.args.end)) c.between.result) c.rank_at.ensures.0 c.between.ensures in
    let few : c.loop-s.s < 24 = omega (arith, state c.before.before.before.before, c.requires.valid.sized.states_fit) in (
      omega (arith, c.loop-s-test.true),
      elim c.if-between.branch [
        | then-between w ↦
            subst (Gathers (Below (Within c.args.row.places c.args.ranks.now c.args.x c.args.low c.args.end) (c.loop-s.s + 1))) (sym w.w-is)
            (below_with (Within c.args.row.places c.args.ranks.now c.args.x c.args.low c.args.end) c.loop-s.invariant.1 few (D.truth told w.if-between.true) w.with_bit-w.ensures)
        | else-between w ↦
            subst (Gathers (Below (Within c.args.row.places c.args.ranks.now c.args.x c.args.low c.args.end) (c.loop-s.s + 1))) (sym w.w-is)
            (below_skip (Within c.args.row.places c.args.ranks.now c.args.x c.args.low c.args.end) c.loop-s.invariant.1 (D.falsity told w.if-between.false))
      ],
    )

pub returns : goal.returns
returns c = let all : c.loop-s.s ≡ L.states c.args.block.now = omega (arith, c.loop-s.invariant.0, c.loop-s-test.false, c.states-states.ensures) in
    below_ranked (L.states c.args.block.now) c.args.row.places c.args.ranks.now c.args.x c.args.low c.args.end c.loop-s.w (subst (λ (s : ℕ). Gathers (Below (Within c.args.row.places c.args.ranks.now c.args.x c.args.low c.args.end) s) c.loop-s.w) all c.loop-s.invariant.1)
