-- `settle_flagged` goes round until no place is flagged; less is left to do each time.
use mathlib.Core.Bool.{Bool}
use mathlib.Core.Path.{sym, subst}
use Prim.Native.Nat.{◌<◌}
use native.Mathlib.Omega.{arith}
use Rattle.game.specs.Model.{arena_of}
use Rattle.game.proofs.Blocks.Passing.{valid_proper, few_positions}
use Rattle.ways.proofs.Leading.{few}
use Rattle.sweeps.proofs.Working.{Working, all_flags, all_flags_lem, all_flagged, working_first, working_next, working_done, rounds_left, round_less}
use Rattle.sweeps.proofs.flagged.settle_flagged.Goals as goal

pub loop-more-init : goal.loop-more-init
loop-more-init c = working_first (arena_of c.args.block.now c.args.row.index) c.args.side.most c.args.side.safe all_flags c.args.ranks.now all_flags_lem
    (λ z small. all_flagged z (omega (arith, few c.args.block.now c.requires.valid c.args.row c.requires.playable.0, c.requires.playable.0.places_are)))

pub slice_bounds-round-end : goal.slice_bounds-round-end
slice_bounds-round-end c = sym c.loop-more.invariant.flagged.long

pub round-more-requires : goal.round-more-requires
round-more-requires c = record {
  valid = c.requires.valid;
  playable = (
    c.requires.playable.0,
    c.requires.playable.1,
    omega (arith, c.requires.playable.2, c.loop-more.invariant.long),
    c.loop-more.invariant.flagged,
  );
  into_value = c.requires.into_value;
}

pub loop-more-smaller : goal.loop-more-smaller
loop-more-smaller c = let G = arena_of c.args.block.now c.args.row.index in
    subst (λ (more : Bool). rounds_left G c.args.side.most c.args.side.safe c.round-more.result c.round-more.new.flags c.round-more.new.ranks < rounds_left G c.args.side.most
    c.args.side.safe more c.loop-more.flags c.loop-more.ranks) (sym c.loop-more-test.true)
    (round_less G c.args.side.most c.args.side.safe c.args.row.places c.round-more.result c.loop-more.flags c.round-more.new.flags c.loop-more.ranks c.round-more.new.ranks
    c.loop-more.invariant.flagged c.round-more.ensures.worked)

pub loop-more-preserved : goal.loop-more-preserved
loop-more-preserved c = let G = arena_of c.args.block.now c.args.row.index in
    working_next G c.args.side.most c.args.side.safe c.args.row.places c.requires.playable.0.places_are c.loop-more.more c.round-more.result c.loop-more.flags c.round-more.new.flags
    c.args.ranks.now c.loop-more.ranks c.round-more.new.ranks c.loop-more.invariant c.round-more.ensures.worked

pub shape_of-ranks : goal.shape_of-ranks
shape_of-ranks c = c.loop-more.invariant.long

pub returns : goal.returns
returns c = let G = arena_of c.args.block.now c.args.row.index in
    working_done G c.args.side.most c.args.side.safe (valid_proper c.args.block.now c.requires.valid)
    (omega (arith, few_positions c.args.block.now c.requires.valid c.args.row.index c.requires.playable.0.inside c.requires.playable.0.strategic)) c.loop-more.flags
    c.args.ranks.now c.loop-more.ranks
    (subst (λ (more : Bool). Working G c.args.side.most c.args.side.safe more c.loop-more.flags c.args.ranks.now c.loop-more.ranks) c.loop-more-test.false c.loop-more.invariant)
