-- `settle_rising` settles one stock place after another; those below stay settled.
use mathlib.Core.Path.{◌≡◌, ◌∙◌, subst}
use Prim.Native.Nat.{ℕ}
use native.Mathlib.Omega.{arith}
use Rattle.game.specs.Model.{arena_of}
use Rattle.game.proofs.Blocks.Passing.{valid_proper, few_positions}
use Rattle.sweeps.proofs.Sweeping.{SettledBelow, settled_none, settled_next, settled_all}
use Rattle.sweeps.proofs.Working.{spends_none}
use Rattle.sweeps.proofs.sweep.settle_rising.Goals as goal

pub loop-x-init : goal.loop-x-init
loop-x-init c = (omega arith, λ proper. settled_none (arena_of c.args.block.now c.args.row.index) proper c.args.side.most c.args.side.safe c.args.ranks.now)

pub settle_place-requires : goal.settle_place-requires
settle_place-requires c = record {
  valid = c.requires.valid;
  playable = (
    c.requires.playable.0,
    c.requires.playable.1,
    omega (arith, c.requires.playable.2, (c.loop-x.invariant.1 (valid_proper c.args.block.now c.requires.valid)).long),
  );
  into_value = (c.requires.into_value.0, c.loop-x-test.true);
}

pub overflow_step-x : goal.overflow_step-x
overflow_step-x c = omega arith

pub loop-x-smaller : goal.loop-x-smaller
loop-x-smaller c = omega (arith, c.loop-x-test.true)

pub loop-x-preserved : goal.loop-x-preserved
loop-x-preserved c = (
  omega (arith, c.loop-x-test.true),
  λ proper. settled_next (arena_of c.args.block.now c.args.row.index) proper c.args.side.most c.args.side.safe
      (spends_none c.args.block.now c.requires.valid c.args.row c.requires.playable.0 c.args.ways.now c.requires.playable.1 c.requires.into_value.0
      (c.requires.playable.1.told c.requires.into_value.1)) c.loop-x.x c.settle_place.result c.args.ranks.now c.loop-x.ranks c.settle_place.new.ranks (c.loop-x.invariant.1 proper)
      c.settle_place.ensures,
)

pub shape_of-ranks : goal.shape_of-ranks
shape_of-ranks c = (c.loop-x.invariant.1 (valid_proper c.args.block.now c.requires.valid)).long

pub returns : goal.returns
returns c = let G = arena_of c.args.block.now c.args.row.index in
    let proper = valid_proper c.args.block.now c.requires.valid in
    let all : c.loop-x.x ≡ c.args.row.places = omega (arith, c.loop-x.invariant.0, c.loop-x-test.false) in
    settled_all G proper c.args.side.most c.args.side.safe (omega (
      arith,
      few_positions c.args.block.now c.requires.valid c.args.row.index c.requires.playable.0.inside
          c.requires.playable.0.strategic,
    )) c.args.ranks.now c.loop-x.ranks
    (subst (λ (x : ℕ). SettledBelow G proper c.args.side.most c.args.side.safe x c.args.ranks.now c.loop-x.ranks) (all ∙ c.requires.playable.0.places_are) (c.loop-x.invariant.1 proper))
