-- `number` goes over the resources as `number_up_to` does.
use mathlib.Core.Path.{◌≡◌, refl, ◌∙◌, ap}
use Prim.Native.Nat.{ℕ, ◌<◌}
use native.Mathlib.Omega.{arith}
use Rattle.block.specs.Layout as L
use Rattle.game.specs.Position.{position, number_up_to}
use Rattle.game.specs.Model.{arena_of}
use Rattle.turns.proofs.Numbering.{goes_on, stays_small}
use Rattle.turns.proofs.positions.number.Goals as goal
use Rattle.turns.proofs.positions.number.Lts as lts
use Rattle.turns.proofs.positions.number.Reads as reads
use Rattle.turns.proofs.positions.number.Tie as tie

abbrev At-In-loop-j : Type 0
At-In-loop-j = lts.In-loop tie.the-claims reads.Pre reads.Post goal.the-invariant-loop-j goal.the-decreases-loop-j tie.handed_clauses

pub resources-n-requires : goal.resources-n-requires
resources-n-requires c = c.requires.valid.sized.bytes

pub loop-j-init : goal.loop-j-init
loop-j-init c = (omega arith, refl)

resource_at : (c : At-In-loop-j) → c.loop-j.j < L.resources c.args.block.now
resource_at c = omega (arith, c.resources-n.ensures, c.loop-j-test.true)

pub places-requires : goal.places-requires
places-requires c = record { valid = c.requires.valid; i_bound = (c.requires.i_bound.0, resource_at c.before, c.requires.i_bound.1) }

pub overflow_mul-x : goal.overflow_mul-x
overflow_mul-x c = let y = position c.args.s c.args.stocks.now in
    omega (arith, stays_small c.args.block.now c.requires.valid c.args.i c.loop-j.j c.loop-j.x c.places.result (y.stock c.loop-j.j) y c.requires.i_bound.0 c.requires.i_bound.1 c.requires.position (resource_at c.before.before) c.loop-j.invariant.1 c.places.ensures refl)

pub bounds-stocks-j : goal.bounds-stocks-j
bounds-stocks-j c = omega (arith, resource_at c.before.before.before, c.requires.i_bound.2)

pub overflow_add-x : goal.overflow_add-x
overflow_add-x c = omega (arith, stays_small c.args.block.now c.requires.valid c.args.i c.loop-j.j c.loop-j.x c.places.result c.from.result (position c.args.s c.args.stocks.now) c.requires.i_bound.0 c.requires.i_bound.1 c.requires.position (resource_at c.before.before.before.before) c.loop-j.invariant.1 c.places.ensures c.from.ensures)

pub overflow_step-j : goal.overflow_step-j
overflow_step-j c = omega arith

pub loop-j-smaller : goal.loop-j-smaller
loop-j-smaller c = omega arith

pub loop-j-preserved : goal.loop-j-preserved
loop-j-preserved c = (
  omega arith,
  goes_on c.args.block.now c.requires.valid c.args.i c.loop-j.j c.loop-j.x c.places.result c.from.result (position c.args.s c.args.stocks.now) c.requires.i_bound.0 c.requires.i_bound.1 c.requires.position (resource_at c.before.before.before.before) c.loop-j.invariant.1 c.places.ensures c.from.ensures,
)

pub returns : goal.returns
returns c = let all : c.loop-j.j ≡ L.resources c.args.block.now = omega (arith, c.resources-n.ensures) in
    c.loop-j.invariant.1 ∙ ap (λ (n : ℕ). number_up_to (arena_of c.args.block.now c.args.i) n (position c.args.s c.args.stocks.now)) all
