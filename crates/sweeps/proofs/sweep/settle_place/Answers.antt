-- `settle_place` sweeps until a sweep does nothing; the sum of the ranks falls till then.
use mathlib.Core.Bool.{Bool, true, cond}
use mathlib.Core.Path.{◌≡◌, ◌∙◌, sym, ap, subst}
use Prim.Native.Nat.{◌<◌}
use native.Mathlib.Omega.{arith}
use Rattle.game.specs.Model.{arena_of}
use Rattle.sweeps.proofs.Sweeping.{Sweeping, sweeping_none, sweeping_next, sweeping_done, left_to_do, sweep_less}
use Rattle.sweeps.proofs.sweep.settle_place.Goals as goal
use Rattle.sweeps.proofs.sweep.settle_place.Goals.{then-more, else-more}

pub loop-more-init : goal.loop-more-init
loop-more-init c = sweeping_none (arena_of c.args.block.now c.args.row.index) c.args.side.most c.args.side.safe c.args.x c.args.ranks.now

pub sweep-more-requires : goal.sweep-more-requires
sweep-more-requires c = record {
  valid = c.requires.valid;
  playable = (
    c.requires.playable.0,
    c.requires.playable.1,
    omega (arith, c.requires.playable.2, c.loop-more.invariant.changed.long),
  );
  into_value = c.requires.into_value;
}

pub loop-more-smaller : goal.loop-more-smaller
loop-more-smaller c = let G = arena_of c.args.block.now c.args.row.index in
    subst (λ (more : Bool). left_to_do G c.args.side.most c.args.side.safe c.args.x c.sweep-more.result c.sweep-more.new.ranks < left_to_do G c.args.side.most c.args.side.safe c.args.x
    more c.loop-more.ranks) (sym c.loop-more-test.true)
    (sweep_less G c.args.side.most c.args.side.safe c.args.x c.sweep-more.result c.loop-more.ranks c.sweep-more.new.ranks c.sweep-more.ensures)

pub loop-more-preserved : goal.loop-more-preserved
loop-more-preserved c = let G = arena_of c.args.block.now c.args.row.index in
    let any : c.if-more.fell ≡ cond c.sweep-more.result true c.loop-more.fell =
    elim c.if-more.branch [
      | then-more w ↦ w.fell-is ∙ sym (ap (λ (t : Bool). cond t true c.loop-more.fell) w.if-more.true)
      | else-more w ↦ w.fell-is ∙ sym (ap (λ (t : Bool). cond t true c.loop-more.fell) w.if-more.false)
    ] in
    subst (λ (t : Bool). Sweeping G c.args.side.most c.args.side.safe c.args.x t c.sweep-more.result c.args.ranks.now c.sweep-more.new.ranks) (sym any)
    (sweeping_next G c.args.side.most c.args.side.safe c.args.x c.loop-more.fell c.loop-more.more c.sweep-more.result c.args.ranks.now c.loop-more.ranks c.sweep-more.new.ranks
    c.loop-more.invariant c.sweep-more.ensures)

pub shape_of-ranks : goal.shape_of-ranks
shape_of-ranks c = c.loop-more.invariant.changed.long

pub returns : goal.returns
returns c = let G = arena_of c.args.block.now c.args.row.index in
    sweeping_done G c.args.side.most c.args.side.safe c.args.x c.loop-more.fell c.args.ranks.now c.loop-more.ranks
    (subst (λ (more : Bool). Sweeping G c.args.side.most c.args.side.safe c.args.x c.loop-more.fell more c.args.ranks.now c.loop-more.ranks) c.loop-more-test.false c.loop-more.invariant)
