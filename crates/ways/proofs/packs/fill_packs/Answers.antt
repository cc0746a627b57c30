-- `fill_packs` packs the stocks of one place after another.
use mathlib.Core.Path.{refl, ◌∙◌}
use native.Mathlib.Omega.{arith}
use Rattle.game.specs.Position.{number}
use Rattle.game.specs.Inner.Stocks.{stocks_of}
use Rattle.game.specs.Model.{arena_of}
use Rattle.turns.proofs.Bytes.{stored_more}
use Rattle.ways.specs.Packed.{PackedAt}
use Rattle.ways.proofs.Leading.{few}
use Rattle.ways.proofs.Placing.{stocks_below}
use Rattle.ways.proofs.packs.fill_packs.Goals as goal

pub loop-x-init : goal.loop-x-init
loop-x-init c = (omega arith, (λ y small. absurd (omega arith)), refl)

pub pack_at-requires : goal.pack_at-requires
pack_at-requires c = record { valid = c.requires.valid; i_bound = (c.requires.playable.0.inside, c.requires.playable.0.strategic) }

pub set_packed-requires : goal.set_packed-requires
set_packed-requires c = (c.loop-x.invariant.2 ∙ c.requires.playable.1, omega (arith, c.loop-x-test.true, few c.args.block.now c.requires.valid c.args.row c.requires.playable.0), omega (arith, c.pack_at.ensures.1))

pub overflow_step-x : goal.overflow_step-x
overflow_step-x c = omega (arith, c.loop-x-test.true)

pub loop-x-smaller : goal.loop-x-smaller
loop-x-smaller c = omega (arith, c.loop-x-test.true)

pub loop-x-preserved : goal.loop-x-preserved
loop-x-preserved c = (omega (arith, c.loop-x-test.true), stored_more (PackedAt (arena_of c.args.block.now c.args.row.index)) c.set_packed.ensures c.pack_at.ensures.0 c.loop-x.invariant.1, c.set_packed.ensures.kept ∙ c.loop-x.invariant.2)

pub shape_of-ways : goal.shape_of-ways
shape_of-ways c = c.loop-x.invariant.2

pub returns : goal.returns
returns c = let G = arena_of c.args.block.now c.args.row.index in (
  λ p fits. c.loop-x.invariant.1 (number G (stocks_of G p)) (omega (arith, stocks_below G p fits, c.requires.playable.0.places_are, c.loop-x-test.false)) p fits refl,
  c.loop-x.invariant.2 ∙ c.requires.playable.1,
)
