-- `next_states` gathers where the listed replies lead.
use mathlib.Core.Bool.{true, false}
use mathlib.Core.Path.{◌≡◌, sym, ◌∙◌, ap, subst, subst₂}
use Prim.Native.Nat.{ℕ, ◌+◌, ◌<◌}
use native.Mathlib.Omega.{arith}
use Rattle.block.specs.Layout as L
use Rattle.ways.specs.Lines.{count_in, number_in}
use Rattle.ways.proofs.Leading.{listed_small}
use Rattle.boards.proofs.Gathering.{Gathers, NamedBy, reply_next, named_none, named_next, named_nexts, listed_joint, listed_next}
use Rattle.boards.proofs.board.next_states.Goals as goal
use Rattle.boards.proofs.board.next_states.Lts as lts
use Rattle.boards.proofs.board.next_states.Reads as reads
use Rattle.boards.proofs.board.next_states.Tie as tie

abbrev At-After-next-q : Type 0
At-After-next-q = lts.After-next tie.the-claims reads.Pre reads.Post goal.the-invariant-loop-j goal.the-decreases-loop-j tie.handed_clauses

abbrev At-In-loop-j : Type 0
At-In-loop-j = lts.In-loop tie.the-claims reads.Pre reads.Post goal.the-invariant-loop-j goal.the-decreases-loop-j tie.handed_clauses

pub number-m-requires : goal.number-m-requires
number-m-requires c = let small = listed_small c.args.block.now c.requires.valid c.args.row c.args.ways.now c.requires.playable.1 c.args.s c.args.k c.requires.s_bound.0 c.requires.s_bound.1 in (c.requires.playable.1.long, small.0, small.1)

pub count-n-requires : goal.count-n-requires
count-n-requires c = let small = listed_small c.args.block.now c.requires.valid c.args.row c.args.ways.now c.requires.playable.1 c.args.s c.args.k c.requires.s_bound.0 c.requires.s_bound.1 in (c.requires.playable.1.long, small.0)

pub loop-j-init : goal.loop-j-init
loop-j-init c = (omega arith, named_none (reply_next c.args.block.now c.args.ways.now c.args.s c.number-m.result))

-- the reply of this turn, and the joint action
module _ (c : At-In-loop-j) where
  reply : c.loop-j.j < count_in c.args.ways.now c.args.s false
  reply = omega (arith, c.loop-j-test.true, c.count-n.ensures)

  joint : c.number-m.result + number_in c.args.ways.now c.args.s false c.loop-j.j < 64
  joint =
      omega (arith, c.number-m.ensures, listed_joint c.args.block.now c.args.row c.args.ways.now c.requires.playable.1 c.args.s c.requires.s_bound.0 c.requires.valid c.requires.playable.0 c.args.k c.loop-j.j c.requires.s_bound.1 reply)

-- where it leads
module _ (c : At-After-next-q) where
  leads : c.next-q.result ≡ reply_next c.args.block.now c.args.ways.now c.args.s c.number-m.result c.loop-j.j
  leads =
      c.next-q.ensures ∙ ap (λ (r : ℕ). L.next c.args.block.now c.args.s (c.number-m.result + r)) c.number.ensures

  next : c.next-q.result < L.states c.args.block.now
  next =
      let same = leads ∙ ap (λ (m : ℕ). reply_next c.args.block.now c.args.ways.now c.args.s m c.loop-j.j) c.number-m.ensures in
      subst (λ (q : ℕ). q < L.states c.args.block.now) (sym same)
      (listed_next c.args.block.now c.args.row c.args.ways.now c.requires.playable.1 c.args.s c.requires.s_bound.0 c.requires.valid c.requires.playable.0 c.args.k c.loop-j.j c.requires.s_bound.1 (reply c.before.before))

pub number-requires : goal.number-requires
number-requires c = (c.requires.playable.1.long, omega (arith, c.requires.s_bound.0, c.requires.valid.sized.states_fit), omega (arith, reply c.before, ((c.requires.playable.1.states c.args.s c.requires.s_bound.0).lines false).few))

pub overflow_add-m : goal.overflow_add-m
overflow_add-m c = record { fits = omega (arith, joint c.before.before, c.number.ensures) }

pub next-q-requires : goal.next-q-requires
next-q-requires c = record { block_len = c.requires.valid.sized.bytes; s_lt_max_states = (omega (arith, c.requires.s_bound.0, c.requires.valid.sized.states_fit), omega (arith, joint c.before.before, c.number.ensures)) }

pub with_bit-w-requires : goal.with_bit-w-requires
with_bit-w-requires c = (omega (arith, next c.before, c.requires.valid.sized.states_fit), omega (arith, c.loop-j.invariant.1.short))

pub overflow_step-j : goal.overflow_step-j
overflow_step-j c = omega (arith, c.loop-j-test.true)

pub loop-j-smaller : goal.loop-j-smaller
loop-j-smaller c = omega (arith, c.loop-j-test.true)

pub loop-j-preserved : goal.loop-j-preserved
loop-j-preserved c = (
  omega (arith, c.loop-j-test.true),
  named_next (reply_next c.args.block.now c.args.ways.now c.args.s c.number-m.result) c.loop-j.invariant.1 (omega (arith, next c.before.before, c.requires.valid.sized.states_fit)) (sym (leads c.before.before)) c.with_bit-w.ensures,
)

pub returns : goal.returns
returns c = let all : c.loop-j.j ≡ count_in c.args.ways.now c.args.s false = omega (arith, c.loop-j.invariant.0, c.loop-j-test.false, c.count-n.ensures) in
    named_nexts c.args.block.now c.args.row c.args.ways.now c.requires.playable.1 c.args.s c.requires.s_bound.0 (number_in c.args.ways.now c.args.s true c.args.k) c.loop-j.w
    (subst₂ (λ (m j : ℕ). Gathers (NamedBy (reply_next c.args.block.now c.args.ways.now c.args.s m) j) c.loop-j.w) c.number-m.ensures all c.loop-j.invariant.1)
