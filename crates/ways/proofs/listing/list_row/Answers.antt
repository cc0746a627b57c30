-- `list_row` lists one state after another, behind the packed stocks.
use mathlib.Core.Path.{sym, ◌∙◌}
use Prim.Native.Nat.{◌<◌}
use native.Mathlib.Omega.{arith}
use Rattle.block.specs.Layout as L
use Rattle.ways.proofs.Filling.{apart}
use Rattle.ways.proofs.Leading.{states_next, packs_kept}
use Rattle.ways.proofs.listing.list_row.Goals as goal
use Rattle.ways.proofs.listing.list_row.Lts as lts
use Rattle.ways.proofs.listing.list_row.Reads as reads
use Rattle.ways.proofs.listing.list_row.Tie as tie

abbrev At-In-loop-s : Type 0
At-In-loop-s = lts.In-loop tie.the-claims reads.Pre reads.Post goal.the-invariant-loop-s goal.the-decreases-loop-s tie.handed_clauses

pub fill_packs-requires : goal.fill_packs-requires
fill_packs-requires c = record { valid = c.requires.valid; playable = (c.requires.playable.0, c.requires.playable.1) }

pub states-n-requires : goal.states-n-requires
states-n-requires c = c.requires.valid.sized.bytes

pub loop-s-init : goal.loop-s-init
loop-s-init c = (omega arith, (λ t small. absurd (omega arith)), c.fill_packs.ensures.0, c.fill_packs.ensures.1)

state_at : (c : At-In-loop-s) → c.loop-s.s < L.states c.args.block.now
state_at c = omega (arith, c.states-n.ensures, c.loop-s-test.true)

pub list_state-requires : goal.list_state-requires
list_state-requires c = record { valid = c.requires.valid; playable = (c.requires.playable.0, state_at c.before.before.before, c.loop-s.invariant.3); parts_table = c.table-parts.ensures }

pub overflow_step-s : goal.overflow_step-s
overflow_step-s c = omega (arith, c.loop-s-test.true)

pub loop-s-smaller : goal.loop-s-smaller
loop-s-smaller c = omega (arith, c.loop-s-test.true)

pub loop-s-preserved : goal.loop-s-preserved
loop-s-preserved c = (
  omega (arith, c.loop-s-test.true),
  states_next c.args.block.now c.args.row c.loop-s.s c.loop-s.ways c.list_state.new.ways c.list_state.ensures.same_outside c.loop-s.invariant.1 c.list_state.ensures.state_listed,
  packs_kept c.args.block.now c.args.row c.loop-s.s c.loop-s.ways c.list_state.new.ways c.list_state.ensures.same_outside c.requires.valid c.requires.playable.0 c.loop-s.invariant.2,
  c.list_state.ensures.same_outside.long ∙ c.loop-s.invariant.3,
)

pub shape_of-ways : goal.shape_of-ways
shape_of-ways c = c.loop-s.invariant.3 ∙ sym c.requires.playable.1

pub returns : goal.returns
returns c = record { told = λ never. absurd (apart _ c.requires.playable.2 never); states = λ s small. c.loop-s.invariant.1 s (omega (arith, c.states-n.ensures, c.loop-s-test.false)); packed = c.loop-s.invariant.2; long = c.loop-s.invariant.3 }
