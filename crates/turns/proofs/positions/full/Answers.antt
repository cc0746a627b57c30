-- `full` goes over the resources as `number_up_to` does, with the largest stock of each.
use mathlib.Core.Path.{◌≡◌, refl, ◌∙◌, ap}
use Prim.Native.Nat.{ℕ, ◌-◌, ◌≤◌, ◌<◌}
use native.Mathlib.Omega.{arith}
use Rattle.block.specs.Layout as L
use Rattle.game.specs.Rbatl.{Bound, limit, unlimited}
use Rattle.game.specs.Position as P
use Rattle.game.specs.Rbatl.{full_stock}
use Rattle.game.specs.Position.{places, number_up_to}
use Rattle.game.specs.Model.{bounds_of, arena_of}
use Rattle.game.proofs.Bridge.Truth.{full_fits}
use Rattle.turns.proofs.Numbering.{goes_on, stays_small}
use Rattle.turns.proofs.positions.full.Goals as goal
use Rattle.turns.proofs.positions.full.Lts as lts
use Rattle.turns.proofs.positions.full.Reads as reads
use Rattle.turns.proofs.positions.full.Tie as tie

abbrev At-After-places-c : Type 0
At-After-places-c = lts.After-places tie.the-claims reads.Pre reads.Post goal.the-invariant-loop-j goal.the-decreases-loop-j tie.handed_clauses

abbrev At-In-loop-j : Type 0
At-In-loop-j = lts.In-loop tie.the-claims reads.Pre reads.Post goal.the-invariant-loop-j goal.the-decreases-loop-j tie.handed_clauses

largest : (b : Bound) → places b - 1 ≡ full_stock b
largest (limit n) = omega arith
largest unlimited = refl

some_place : (b : Bound) → 1 ≤ places b
some_place (limit n) = omega arith
some_place unlimited = omega arith

pub resources-n-requires : goal.resources-n-requires
resources-n-requires c = c.requires.valid.sized.bytes

pub loop-j-init : goal.loop-j-init
loop-j-init c = (omega arith, refl)

resource_at : (c : At-In-loop-j) → c.loop-j.j < L.resources c.args.block.now
resource_at c = omega (arith, c.resources-n.ensures, c.loop-j-test.true)

pub places-c-requires : goal.places-c-requires
places-c-requires c = record { valid = c.requires.valid; i_bound = (c.requires.i_bound.0, resource_at c.before, c.requires.i_bound.1) }

-- the largest stock of the resource
stock_is : (c : At-After-places-c) → c.places-c.result - 1 ≡ full_stock (bounds_of c.args.block.now c.args.i c.loop-j.j)
stock_is c = ap (λ (k : ℕ). k - 1) c.places-c.ensures ∙ largest (bounds_of c.args.block.now c.args.i c.loop-j.j)

pub overflow_mul-x : goal.overflow_mul-x
overflow_mul-x c = omega (arith, stays_small c.args.block.now c.requires.valid c.args.i c.loop-j.j c.loop-j.x c.places-c.result (c.places-c.result - 1) (P.full (arena_of c.args.block.now c.args.i) c.args.s) c.requires.i_bound.0 c.requires.i_bound.1 (full_fits (arena_of c.args.block.now c.args.i) c.args.s c.requires.i_bound.2) (resource_at c.before.before) c.loop-j.invariant.1 c.places-c.ensures (stock_is c.before))

pub overflow_sub-x : goal.overflow_sub-x
overflow_sub-x c = omega (arith, c.places-c.ensures, some_place (bounds_of c.args.block.now c.args.i c.loop-j.j))

pub overflow_add-x : goal.overflow_add-x
overflow_add-x c = omega (arith, stays_small c.args.block.now c.requires.valid c.args.i c.loop-j.j c.loop-j.x c.places-c.result (c.places-c.result - 1) (P.full (arena_of c.args.block.now c.args.i) c.args.s) c.requires.i_bound.0 c.requires.i_bound.1 (full_fits (arena_of c.args.block.now c.args.i) c.args.s c.requires.i_bound.2) (resource_at c.before.before) c.loop-j.invariant.1 c.places-c.ensures (stock_is c.before))

pub overflow_step-j : goal.overflow_step-j
overflow_step-j c = omega arith

pub loop-j-smaller : goal.loop-j-smaller
loop-j-smaller c = omega arith

pub loop-j-preserved : goal.loop-j-preserved
loop-j-preserved c = (omega arith, goes_on c.args.block.now c.requires.valid c.args.i c.loop-j.j c.loop-j.x c.places-c.result (c.places-c.result - 1) (P.full (arena_of c.args.block.now c.args.i) c.args.s) c.requires.i_bound.0 c.requires.i_bound.1 (full_fits (arena_of c.args.block.now c.args.i) c.args.s c.requires.i_bound.2) (resource_at c.before.before) c.loop-j.invariant.1 c.places-c.ensures (stock_is c.before))

pub returns : goal.returns
returns c = let all : c.loop-j.j ≡ L.resources c.args.block.now = omega (arith, c.resources-n.ensures) in
    c.loop-j.invariant.1 ∙ ap (λ (n : ℕ). number_up_to (arena_of c.args.block.now c.args.i) n (P.full (arena_of c.args.block.now c.args.i) c.args.s)) all
