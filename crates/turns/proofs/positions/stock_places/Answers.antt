-- `stock_places` multiplies the stock places of the resources.
use mathlib.Core.Path.{◌≡◌, refl, sym, ◌∙◌, ap, ap₂}
use Prim.Native.Nat.{ℕ, ◌+◌, ◌*◌, ◌≤◌}
use native.Mathlib.Numerals.{add-one}
use native.Mathlib.Omega.{arith}
use Rattle.block.specs.Layout as L
use Rattle.block.specs.Layout.{Block}
use Rattle.game.specs.Position.{places}
use Rattle.game.specs.Inner.Stocks.{stock_places_up_to}
use Rattle.game.specs.Model.{bounds_of, arena_of}
use Rattle.game.proofs.Blocks.Passing.{few_stocks}
use Rattle.turns.proofs.positions.stock_places.Goals as goal

pub resources-n-requires : goal.resources-n-requires
resources-n-requires c = c.requires.valid.sized.bytes

pub loop-j-init : goal.loop-j-init
loop-j-init c = (omega arith, refl)

pub places-c-requires : goal.places-c-requires
places-c-requires c = record { valid = c.requires.valid; i_bound = (c.requires.i_bound.0, omega (arith, c.resources-n.ensures), c.requires.i_bound.1) }

-- one more resource
more : (b : Block) (i j c r : ℕ) → c ≡ stock_places_up_to (arena_of b i) j → r ≡ places (bounds_of b i j) → c * r ≡ stock_places_up_to (arena_of b i) (j + 1)
more b i j c r e e' = ap₂ ◌*◌ e e' ∙ sym (ap (stock_places_up_to (arena_of b i)) (add-one j))

pub overflow_mul-c : goal.overflow_mul-c
overflow_mul-c c = let fits : c.loop-j.j + 1 ≤ L.resources c.args.block.now = omega (arith, c.resources-n.ensures) in
    omega (arith, more c.args.block.now c.args.i c.loop-j.j c.loop-j.c c.places-c.result c.loop-j.invariant.1 c.places-c.ensures, few_stocks c.args.block.now c.requires.valid c.args.i c.requires.i_bound.0 c.requires.i_bound.1 (c.loop-j.j + 1) fits)

pub overflow_step-j : goal.overflow_step-j
overflow_step-j c = omega arith

pub loop-j-smaller : goal.loop-j-smaller
loop-j-smaller c = omega arith

pub loop-j-preserved : goal.loop-j-preserved
loop-j-preserved c = (omega arith, more c.args.block.now c.args.i c.loop-j.j c.loop-j.c c.places-c.result c.loop-j.invariant.1 c.places-c.ensures)

pub returns : goal.returns
returns c = let all : c.loop-j.j ≡ L.resources c.args.block.now = omega (arith, c.resources-n.ensures) in
    let whole = c.loop-j.invariant.1 ∙ ap (stock_places_up_to (arena_of c.args.block.now c.args.i)) all in
    (whole, omega (arith, whole, few_stocks c.args.block.now c.requires.valid c.args.i c.requires.i_bound.0 c.requires.i_bound.1 (L.resources c.args.block.now) (omega arith)))
