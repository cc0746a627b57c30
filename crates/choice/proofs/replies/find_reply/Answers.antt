-- `find_reply` tries the listed replies from the smallest on until one counters.
use mathlib.Core.Bool.{false}
use mathlib.Core.Path.{◌≡◌, sym, ◌∙◌, ap, subst, transport}
use Prim.Native.Nat.{ℕ, ◌+◌, ◌*◌, ◌<◌}
use native.Mathlib.Omega.{arith}
use Rattle.block.specs.Layout as L
use Rattle.block.proofs.Decide as D
use Rattle.game.specs.Position.{Position}
use Rattle.game.specs.Table.{Smallest}
use Rattle.game.specs.Model.{arena_of}
use Rattle.turns.specs.Buffers.{rank_in}
use Rattle.turns.specs.Inner.Rules.{ReplyTo}
use Rattle.turns.proofs.Opponents.{next_small}
use Rattle.ways.specs.Landing.{Leaves}
use Rattle.ways.specs.Lines.{count_in, number_in}
use Rattle.ways.proofs.Leading.{reply_joint, reply_inside}
use Rattle.choice.specs.Choices.{CountersBy}
use Rattle.rankings.specs.Kinds.{CounterBy, kind_of}
use Rattle.choice.proofs.Replying.{counters_here, here_counters}
use Rattle.choice.proofs.Searching.{joint_number, line_first, line_none}
use Rattle.game.proofs.Numbers.Decide.{none_more}
use Rattle.choice.proofs.replies.find_reply.Goals as goal
use Rattle.choice.proofs.replies.find_reply.Lts as lts
use Rattle.choice.proofs.replies.find_reply.Reads as reads
use Rattle.choice.proofs.replies.find_reply.Tie as tie

abbrev At-After-counters : Type 0
At-After-counters = lts.After-counters tie.the-claims reads.Pre reads.Post goal.the-invariant-loop-k goal.the-decreases-loop-k tie.handed_clauses

abbrev At-After-next-q : Type 0
At-After-next-q = lts.After-next tie.the-claims reads.Pre reads.Post goal.the-invariant-loop-k goal.the-decreases-loop-k tie.handed_clauses

abbrev At-At-loop-k : Type 0
At-At-loop-k = lts.At-loop tie.the-claims reads.Pre reads.Post goal.the-invariant-loop-k goal.the-decreases-loop-k tie.handed_clauses

abbrev At-In-loop-k : Type 0
At-In-loop-k = lts.In-loop tie.the-claims reads.Pre reads.Post goal.the-invariant-loop-k goal.the-decreases-loop-k tie.handed_clauses

abbrev At-Start : Type 0
At-Start = lts.Start tie.the-claims reads.Pre reads.Post goal.the-invariant-loop-k goal.the-decreases-loop-k tie.handed_clauses

state_small : (start : At-Start) → start.args.step.state < 24
state_small start = omega (arith, start.requires.made.0, start.requires.valid.sized.states_fit)

pub count-n-requires : goal.count-n-requires
count-n-requires c = (c.requires.playable.1.long, state_small c.before.before.before.before)

pub loop-k-init : goal.loop-k-init
loop-k-init c = (omega arith, λ j less. absurd (omega arith))

within : (c : At-In-loop-k) → c.loop-k.k < count_in c.args.ways.now c.args.step.state false
within c = omega (arith, c.loop-k-test.true, c.count-n.ensures)

-- a listed number is a reply, and it leads to a position
module _ (start : At-Start) (k : ℕ) (small : k < count_in start.args.ways.now start.args.step.state false) where
  abbrev r : ℕ
  r = number_in start.args.ways.now start.args.step.state false k

  reply : ReplyTo start.args.block.now start.args.row.index start.args.step.state r
  reply = ((start.requires.playable.1.states start.args.step.state start.requires.made.0).lines false).only k small

  sum_fits : start.args.step.number + r < 64
  sum_fits = reply_joint start.args.block.now start.requires.valid start.args.row start.requires.playable.0 start.args.step.state start.args.step.number start.args.step.place start.requires.made r reply

  inside : L.next start.args.block.now start.args.step.state (start.args.step.number + r) * start.args.row.places + start.args.step.place < 6144
  inside = reply_inside start.args.block.now start.requires.valid start.args.row start.requires.playable.0 start.args.step.state start.args.step.number start.args.step.place start.requires.made r reply

  state_fits : L.next start.args.block.now start.args.step.state (start.args.step.number + r) < 24
  state_fits = next_small start.args.block.now start.requires.valid start.args.row.index start.requires.playable.0.inside start.requires.playable.0.strategic start.args.step.state start.args.step.number r start.requires.made.0 start.requires.made.1 reply

pub number-r-requires : goal.number-r-requires
number-r-requires c = (c.requires.playable.1.long, state_small c.before.before.before.before.before.before.before, omega (arith, within c.before, ((c.requires.playable.1.states c.args.step.state c.requires.made.0).lines false).few))

pub overflow_add-step : goal.overflow_add-step
overflow_add-step c = record { fits = omega (arith, c.number-r.ensures, sum_fits c.before.before.before.before.before.before.before.before.before c.loop-k.k (within c.before.before.before)) }

pub next-q-requires : goal.next-q-requires
next-q-requires c = record { block_len = c.requires.valid.sized.bytes; s_lt_max_states = (state_small c.before.before.before.before.before.before.before.before.before, omega (arith, c.number-r.ensures, sum_fits c.before.before.before.before.before.before.before.before.before c.loop-k.k (within c.before.before.before))) }

-- where the reply that is tried leads
leads : (c : At-After-next-q) → c.next-q.result ≡ L.next c.args.block.now c.args.step.state (c.args.step.number + number_in c.args.ways.now c.args.step.state false c.loop-k.k)
leads c =
    c.next-q.ensures ∙ ap (λ (r : ℕ). L.next c.args.block.now c.args.step.state (c.args.step.number + r)) c.number-r.ensures

spot_fits : (c : At-After-next-q) → c.next-q.result * c.args.row.places + c.args.step.place < 6144
spot_fits c =
    subst (λ (q : ℕ). q * c.args.row.places + c.args.step.place < 6144) (sym (leads c)) (inside c.before.before.before.before.before.before.before.before.before c.loop-k.k (within c.before.before.before))

pub overflow_mul-q : goal.overflow_mul-q
overflow_mul-q c = record { fits = omega (arith, spot_fits c.before) }

pub overflow_add-q : goal.overflow_add-q
overflow_add-q c = record { fits = omega (arith, spot_fits c.before.before) }

pub rank_at-rank-requires : goal.rank_at-rank-requires
rank_at-rank-requires c = omega (arith, spot_fits c.before.before, c.requires.playable.2)

pub counters-requires : goal.counters-requires
counters-requires c = omega (arith, leads c.before.before.before, state_fits c.before.before.before.before.before.before.before.before.before.before.before.before c.loop-k.k (within c.before.before.before.before.before.before))

-- the test is about the reply's own state and rank
tested : (c : At-After-counters) → CounterBy (kind_of c.args.aim.goal) c.args.row.set c.args.aim.own c.next-q.result c.rank_at-rank.result
    ≡ CounterBy (kind_of c.args.aim.goal) c.args.row.set c.args.aim.own (L.next c.args.block.now c.args.step.state (c.args.step.number + number_in c.args.ways.now c.args.step.state false c.loop-k.k)) (rank_in c.args.ranks.now (L.next c.args.block.now c.args.step.state (c.args.step.number + number_in c.args.ways.now c.args.step.state false c.loop-k.k) * c.args.row.places + c.args.step.place))
tested c =
    ap (CounterBy (kind_of c.args.aim.goal) c.args.row.set c.args.aim.own c.next-q.result) c.rank_at-rank.ensures.0 ∙ ap (λ (q : ℕ). CounterBy (kind_of c.args.aim.goal) c.args.row.set c.args.aim.own q (rank_in c.args.ranks.now (q * c.args.row.places + c.args.step.place))) (leads c.before.before.before)

-- the replies that are tried, from a position that the move is made from
module _ (c : At-At-loop-k) (p : Position) (is_state : p.state ≡ c.args.step.state) (leaves : Leaves (arena_of c.args.block.now c.args.row.index) p c.args.step.number c.args.step.place) where
  abbrev Counters : ℕ → Type 0
  Counters = CountersBy c.args.block.now c.args.row c.args.ranks.now (kind_of c.args.aim.goal) c.args.aim.own p c.args.step.number

  listed : (r : ℕ) → Counters r → ReplyTo c.args.block.now c.args.row.index c.args.step.state r
  listed r counter = subst (λ (q : ℕ). ReplyTo c.args.block.now c.args.row.index q r) is_state counter.0

  none_so_far : (j : ℕ) → j < c.loop-k.k → j < count_in c.args.ways.now c.args.step.state false → Counters (number_in c.args.ways.now c.args.step.state false j) → ⊥
  none_so_far j less small counter = c.loop-k.invariant.1 j less
      (here_counters c.args.block.now c.requires.valid c.args.row c.requires.playable.0 c.args.ranks.now (kind_of c.args.aim.goal) c.args.aim.own c.args.step.state c.args.step.number c.args.step.place c.requires.made p is_state leaves (number_in c.args.ways.now c.args.step.state false j) (reply c.before.before.before.before.before j small) counter)

pub returns-then-counters : goal.returns-then-counters
returns-then-counters c = let small = within c.before.before.before.before.before.before.before.before in
    let line = (c.requires.playable.1.states c.args.step.state c.requires.made.0).lines false in (
      λ p fits is_state leaves _ _. subst (Smallest (Counters c.before.before.before.before.before.before.before.before.before p is_state leaves)) (sym c.number-r.ensures)
          (line_first (ReplyTo c.args.block.now c.args.row.index c.args.step.state) (Counters c.before.before.before.before.before.before.before.before.before p is_state leaves) line (λ m counters _. listed c.before.before.before.before.before.before.before.before.before p is_state leaves m counters) c.loop-k.k small
          (λ j less. none_so_far c.before.before.before.before.before.before.before.before.before p is_state leaves j less (omega arith))
          (counters_here c.args.block.now c.requires.valid c.args.row c.requires.playable.0 c.args.ranks.now (kind_of c.args.aim.goal) c.args.aim.own c.args.step.state c.args.step.number c.args.step.place c.requires.made p is_state leaves (number_in c.args.ways.now c.args.step.state false c.loop-k.k) (reply c.before.before.before.before.before.before.before.before.before.before.before.before.before.before c.loop-k.k small)
          (transport (tested c.before.before) (D.truth c.counters.ensures c.if-counters.true)))),
      omega (arith, c.number-r.ensures, joint_number c.args.block.now c.requires.valid (number_in c.args.ways.now c.args.step.state false c.loop-k.k) (reply c.before.before.before.before.before.before.before.before.before.before.before.before.before.before c.loop-k.k small).0),
    )

pub overflow_step-k : goal.overflow_step-k
overflow_step-k c = omega arith

pub loop-k-smaller : goal.loop-k-smaller
loop-k-smaller c = omega (arith, c.loop-k-test.true)

pub loop-k-preserved : goal.loop-k-preserved
loop-k-preserved c = (
  omega (arith, c.loop-k-test.true),
  none_more (λ j. CounterBy (kind_of c.args.aim.goal) c.args.row.set c.args.aim.own (L.next c.args.block.now c.args.step.state (c.args.step.number + number_in c.args.ways.now c.args.step.state false j)) (rank_in c.args.ranks.now (L.next c.args.block.now c.args.step.state (c.args.step.number + number_in c.args.ways.now c.args.step.state false j) * c.args.row.places + c.args.step.place))) c.loop-k.k c.loop-k.invariant.1
      (λ aim. D.falsity c.counters.ensures c.if-counters.false (transport (sym (tested c.before.before)) aim)),
)

pub returns : goal.returns
returns c = (
  λ p fits is_state leaves k counter. absurd (line_none (ReplyTo c.args.block.now c.args.row.index c.args.step.state) (Counters c.before.before p is_state leaves)
      ((c.requires.playable.1.states c.args.step.state c.requires.made.0).lines false) (λ m counters _. listed c.before.before p is_state leaves m counters)
      (λ j small. none_so_far c.before.before p is_state leaves j (omega (arith, c.loop-k-test.false, c.count-n.ensures)) small) k counter),
  omega arith,
)
