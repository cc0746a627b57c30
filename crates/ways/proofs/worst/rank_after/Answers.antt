-- `rank_after` reads the rank where a listed reply leads.
use mathlib.Core.Bool.{false}
use mathlib.Core.Path.{◌≡◌, ◌∙◌, ap}
use Prim.Native.Nat.{ℕ, ◌+◌, ◌*◌, ◌<◌}
use native.Mathlib.Omega.{arith}
use Rattle.block.specs.Layout as L
use Rattle.turns.specs.Buffers.{rank_in}
use Rattle.turns.specs.Inner.Rules.{ReplyTo}
use Rattle.ways.specs.Lines.{number_in}
use Rattle.ways.proofs.Leading.{reply_joint, reply_inside}
use Rattle.ways.proofs.worst.rank_after.Goals as goal
use Rattle.ways.proofs.worst.rank_after.Lts as lts
use Rattle.ways.proofs.worst.rank_after.Reads as reads
use Rattle.ways.proofs.worst.rank_after.Tie as tie

abbrev At-After-next-next : Type 0
At-After-next-next = lts.After-next tie.the-claims reads.Pre reads.Post tie.handed_clauses

abbrev At-Start : Type 0
At-Start = lts.Start tie.the-claims reads.Pre reads.Post tie.handed_clauses

module _ (start : At-Start) where
  state_small : start.args.step.state < 24
  state_small = omega (arith, start.requires.made.0.0, start.requires.valid.sized.states_fit)

  reply : ReplyTo start.args.block.now start.args.row.index start.args.step.state (number_in start.args.ways.now start.args.step.state false start.args.k)
  reply = ((start.requires.playable.1.states start.args.step.state start.requires.made.0.0).lines false).only start.args.k start.requires.made.1

  joint : start.args.step.number + number_in start.args.ways.now start.args.step.state false start.args.k < 64
  joint = reply_joint start.args.block.now start.requires.valid start.args.row start.requires.playable.0 start.args.step.state start.args.step.number start.args.step.place start.requires.made.0 (number_in start.args.ways.now start.args.step.state false start.args.k) reply

  inside : L.next start.args.block.now start.args.step.state (start.args.step.number + number_in start.args.ways.now start.args.step.state false start.args.k) * start.args.row.places + start.args.step.place < 6144
  inside = reply_inside start.args.block.now start.requires.valid start.args.row start.requires.playable.0 start.args.step.state start.args.step.number start.args.step.place start.requires.made.0 (number_in start.args.ways.now start.args.step.state false start.args.k) reply

pub number-r-requires : goal.number-r-requires
number-r-requires c = (c.requires.playable.1.long, state_small c.before.before.before.before, omega (arith, c.requires.made.1, ((c.requires.playable.1.states c.args.step.state c.requires.made.0.0).lines false).few))

pub overflow_add-step : goal.overflow_add-step
overflow_add-step c = record { fits = omega (arith, c.number-r.ensures, joint c.before.before.before.before.before.before) }

pub next-next-requires : goal.next-next-requires
next-next-requires c = record { block_len = c.requires.valid.sized.bytes; s_lt_max_states = (state_small c.before.before.before.before.before.before, omega (arith, c.number-r.ensures, joint c.before.before.before.before.before.before)) }

leads : (c : At-After-next-next) → c.next-next.result * c.args.row.places + c.args.step.place ≡ L.next c.args.block.now c.args.step.state (c.args.step.number + number_in c.args.ways.now c.args.step.state false c.args.k) * c.args.row.places + c.args.step.place
leads c =
    ap (λ (q : ℕ). q * c.args.row.places + c.args.step.place) (c.next-next.ensures ∙ ap (λ (r : ℕ). L.next c.args.block.now c.args.step.state (c.args.step.number + r)) c.number-r.ensures)

pub overflow_mul-next : goal.overflow_mul-next
overflow_mul-next c = record { fits = omega (arith, leads c.before.before, inside c.before.before.before.before.before.before.before.before) }

pub overflow_add-next : goal.overflow_add-next
overflow_add-next c = record { fits = omega (arith, leads c.before.before.before, inside c.before.before.before.before.before.before.before.before.before) }

pub rank_at-requires : goal.rank_at-requires
rank_at-requires c = omega (arith, leads c.before.before.before, inside c.before.before.before.before.before.before.before.before.before, c.requires.playable.2)

pub returns : goal.returns
returns c = (c.rank_at.ensures.0 ∙ ap (rank_in c.args.ranks.now) (leads c.before.before.before.before), c.rank_at.ensures.1)
