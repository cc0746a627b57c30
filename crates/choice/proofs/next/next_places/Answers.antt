-- `next_places` stores one rank after another.
use mathlib.Core.Path.{refl, ◌∙◌}
use Prim.Native.Nat.{◌+◌, ◌*◌, ◌<◌}
use native.Mathlib.Omega.{arith}
use mathlib.Core.Bool.{true}
use Rattle.block.proofs.Decide as D
use Rattle.ways.proofs.Leading.{number_inside}
use Rattle.choice.proofs.Filling.{places_first, places_next, places_all}
use Rattle.choice.proofs.next.next_places.Goals as goal
use Rattle.choice.proofs.next.next_places.Lts as lts
use Rattle.choice.proofs.next.next_places.Reads as reads
use Rattle.choice.proofs.next.next_places.Tie as tie

abbrev At-In-loop-x : Type 0
At-In-loop-x = lts.In-loop tie.the-claims reads.Pre reads.Post goal.the-invariant-loop-x goal.the-decreases-loop-x tie.handed_clauses

pub last_free-free-requires : goal.last_free-free-requires
last_free-free-requires c = (c.requires.playable.2.long, omega (arith, c.requires.s_bound.0, c.requires.valid.sized.states_fit), ((c.requires.playable.2.states c.args.s c.requires.s_bound.0).lines true).few)

pub loop-x-init : goal.loop-x-init
loop-x-init c = (omega arith, places_first c.args.s c.args.row.places c.requires.s_bound.1, refl)

-- the position is within the buffer
inside : (c : At-In-loop-x) → c.args.s * c.args.row.places + c.loop-x.x < 6144
inside c =
    number_inside c.args.block.now c.requires.valid c.args.row c.requires.playable.0 c.args.s c.loop-x.x c.requires.s_bound.0 c.loop-x-test.true

pub overflow_mul-s : goal.overflow_mul-s
overflow_mul-s c = record { fits = omega (arith, inside c.before.before.before) }

pub overflow_add-s : goal.overflow_add-s
overflow_add-s c = record { fits = omega (arith, inside c.before.before.before) }

pub next_rank-rank-requires : goal.next_rank-rank-requires
next_rank-rank-requires c = record { valid = c.requires.valid; playable = (c.requires.playable.0, c.requires.playable.1, c.requires.playable.2); state_bound = (c.requires.s_bound.0, c.loop-x-test.true, D.truth c.last_free-free.ensures) }

pub set_rank-requires : goal.set_rank-requires
set_rank-requires c = (omega (arith, inside c.before.before.before, c.loop-x.invariant.2, c.requires.playable.3), c.next_rank-rank.ensures.1)

pub overflow_step-x : goal.overflow_step-x
overflow_step-x c = omega (arith, c.loop-x-test.true)

pub loop-x-smaller : goal.loop-x-smaller
loop-x-smaller c = omega (arith, c.loop-x-test.true)

pub loop-x-preserved : goal.loop-x-preserved
loop-x-preserved c = (omega (arith, c.loop-x-test.true), places_next c.args.s c.args.row.places c.loop-x.x c.next_rank-rank.result c.loop-x.invariant.1 c.set_rank.ensures c.next_rank-rank.ensures.0, c.set_rank.ensures.kept ∙ c.loop-x.invariant.2)

pub shape_of-ranks : goal.shape_of-ranks
shape_of-ranks c = c.loop-x.invariant.2

pub returns : goal.returns
returns c = record { filled_to = places_all c.args.s c.args.row.places c.loop-x.x (omega (arith, c.loop-x-test.false, c.loop-x.invariant.0)) c.loop-x.invariant.1; ranks_len_unchanged = c.loop-x.invariant.2 }
