-- `plan_lines` writes the line of the lowest state above those written.
use Prim.Native.Nat.{◌+◌, ◌^◌, ◌<◌}
use native.Mathlib.Nat.{div-le_self}
use native.Mathlib.Omega.{arith}
use Rattle.block.specs.Layout as L
use Rattle.turns.specs.Buffers.{table_in}
use Rattle.report.proofs.Planning.{planned_none, state_inside, planned_next, planned_all}
use Rattle.report.proofs.plans.plan_lines.Goals as goal

pub loop-from-init : goal.loop-from-init
loop-from-init c = planned_none c.args.block.now c.args.i c.args.set (table_in c.args.ranks.now c.args.moves.now) c.args.out.now

pub overflow_shr-set : goal.overflow_shr-set
overflow_shr-set c = omega (arith, c.loop-from.invariant.inside, c.requires.valid.sized.states_fit)

pub overflow_shr-set-in-loop-from : goal.overflow_shr-set-in-loop-from
overflow_shr-set-in-loop-from c = omega (arith, c.loop-from.invariant.inside, c.requires.valid.sized.states_fit)

pub lowest-requires : goal.lowest-requires
lowest-requires c = (omega (arith, c.loop-from-test.true), omega (arith, div-le_self c.args.set (2 ^ c.loop-from.from), c.requires.set_bound.0))

pub overflow_add-s : goal.overflow_add-s
overflow_add-s c =
    let inside : c.loop-from.from + c.lowest.result < L.states c.args.block.now = state_inside c.args.block.now c.args.i c.args.set (table_in c.args.ranks.now c.args.moves.now) c.requires.set_bound.1 c.loop-from.invariant c.lowest.result c.lowest.ensures in
    omega (arith, inside, c.requires.valid.sized.states_fit)

pub plan_at-requires : goal.plan_at-requires
plan_at-requires c =
    let inside : c.loop-from.from + c.lowest.result < L.states c.args.block.now = state_inside c.args.block.now c.args.i c.args.set (table_in c.args.ranks.now c.args.moves.now) c.requires.set_bound.1 c.loop-from.invariant c.lowest.result c.lowest.ensures in
    record { valid = c.requires.valid; i_bound = (c.requires.i_bound.0, c.requires.i_bound.1, inside); room_bytes_in_bounds = (c.requires.room_bytes_in_bounds.0, c.requires.room_bytes_in_bounds.1, omega (arith, c.loop-from.invariant.near, inside, c.loop-from.invariant.same.1, c.requires.valid.sized.states_fit, c.requires.room_bytes_in_bounds.2)) }

pub overflow_add-from : goal.overflow_add-from
overflow_add-from c =
    let inside : c.loop-from.from + c.lowest.result < L.states c.args.block.now = state_inside c.args.block.now c.args.i c.args.set (table_in c.args.ranks.now c.args.moves.now) c.requires.set_bound.1 c.loop-from.invariant c.lowest.result c.lowest.ensures in
    omega (arith, inside, c.requires.valid.sized.states_fit)

pub loop-from-smaller : goal.loop-from-smaller
loop-from-smaller c =
    let inside : c.loop-from.from + c.lowest.result < L.states c.args.block.now = state_inside c.args.block.now c.args.i c.args.set (table_in c.args.ranks.now c.args.moves.now) c.requires.set_bound.1 c.loop-from.invariant c.lowest.result c.lowest.ensures in
    omega (arith, inside)

pub loop-from-preserved : goal.loop-from-preserved
loop-from-preserved c = planned_next c.args.block.now c.args.i c.args.set (table_in c.args.ranks.now c.args.moves.now) c.requires.set_bound.1 c.loop-from.invariant c.lowest.result c.lowest.ensures c.plan_at.ensures.adds c.plan_at.ensures.within.0 c.plan_at.ensures.within.1

pub returns-clause-adds : goal.returns-clause-adds
returns-clause-adds c = planned_all c.args.block.now c.args.i c.args.set (table_in c.args.ranks.now c.args.moves.now) c.requires.set_bound.1 c.loop-from.invariant c.loop-from-test.false

pub returns-clause-within : goal.returns-clause-within
returns-clause-within c = (omega (arith, c.loop-from.invariant.near, c.loop-from.invariant.inside, c.requires.valid.sized.states_fit), c.loop-from.invariant.same)
