-- `sweep` goes over the states one after another, in either order.
use mathlib.Core.Bool.{Bool, true, cond}
use mathlib.Core.Path.{◌≡◌, sym, ◌∙◌, ap, subst}
use Prim.Native.Nat.{ℕ, ◌+◌}
use native.Mathlib.Omega.{arith}
use Rattle.game.specs.Model.{arena_of}
use Rattle.sweeps.specs.Sweeps.{RestsAt, RestsBelow, visit, Swept}
use Rattle.sweeps.proofs.Sweeping.{RestsFirst, visits, swept_nothing, swept_next, swept_all}
use Rattle.sweeps.proofs.sweep.sweep.Goals as goal
use Rattle.sweeps.proofs.sweep.sweep.Goals.{then-settle_at, else-settle_at}

pub states-n-requires : goal.states-n-requires
states-n-requires c = omega (arith, c.requires.valid.sized.bytes)

pub loop-k-init : goal.loop-k-init
loop-k-init c = let G = arena_of c.args.block.now c.args.row.index in (
  omega arith,
  swept_nothing G c.args.side.most c.args.side.safe c.args.x (RestsFirst G c.args.side.most c.args.side.safe c.args.x (visit c.args.back c.states-n.result) 0)
      c.args.ranks.now (λ j l. absurd (omega arith)),
)

pub visited-requires : goal.visited-requires
visited-requires c = c.loop-k-test.true

pub settle_at-requires : goal.settle_at-requires
settle_at-requires c = let inside = (visits c.args.back c.states-n.result c.loop-k.k c.loop-k-test.true).0 in
    record {
      valid = c.requires.valid;
      playable = (c.requires.playable.0, c.requires.playable.1, omega (arith, c.requires.playable.2, c.loop-k.invariant.1.changed.long));
      into_value = (c.requires.into_value.0, omega (arith, inside, c.visited.ensures, c.states-n.ensures), c.requires.into_value.1);
    }

pub overflow_step-k : goal.overflow_step-k
overflow_step-k c = omega arith

pub loop-k-smaller : goal.loop-k-smaller
loop-k-smaller c = omega (arith, c.loop-k-test.true)

pub loop-k-preserved : goal.loop-k-preserved
loop-k-preserved c = let G = arena_of c.args.block.now c.args.row.index in
    let order = visit c.args.back c.states-n.result in
    let any : c.if-settle_at.did ≡ cond c.settle_at.result true c.loop-k.did =
    elim c.if-settle_at.branch [
      | then-settle_at w ↦ w.did-is ∙ sym (ap (λ (t : Bool). cond t true c.loop-k.did) w.if-settle_at.true)
      | else-settle_at w ↦ w.did-is ∙ sym (ap (λ (t : Bool). cond t true c.loop-k.did) w.if-settle_at.false)
    ] in
    let one = subst (λ (s : ℕ). Swept G c.args.side.most c.args.side.safe c.args.x (RestsAt G c.args.side.most c.args.side.safe c.args.x s) c.settle_at.result c.loop-k.ranks
    c.settle_at.new.ranks) c.visited.ensures c.settle_at.ensures in (
      omega (arith, c.loop-k.invariant.0, c.loop-k-test.true),
      subst (λ (t : Bool). Swept G c.args.side.most c.args.side.safe c.args.x (RestsFirst G c.args.side.most c.args.side.safe c.args.x order (c.loop-k.k + 1)) t c.args.ranks.now
          c.settle_at.new.ranks) (sym any)
          (swept_next G c.args.side.most c.args.side.safe c.args.x order c.loop-k.k c.loop-k.invariant.1 one),
    )

pub shape_of-ranks : goal.shape_of-ranks
shape_of-ranks c = c.loop-k.invariant.1.changed.long

pub returns : goal.returns
returns c = let G = arena_of c.args.block.now c.args.row.index in
    let order = visit c.args.back c.states-n.result in
    let all : c.loop-k.k ≡ c.states-n.result = omega (arith, c.loop-k.invariant.0, c.loop-k-test.false) in
    subst (λ (n : ℕ). Swept G c.args.side.most c.args.side.safe c.args.x (RestsBelow G c.args.side.most c.args.side.safe c.args.x n) c.loop-k.did c.args.ranks.now c.loop-k.ranks) c.states-n.ensures
    (swept_all G c.args.side.most c.args.side.safe c.args.x order order c.states-n.result (visits c.args.back c.states-n.result)
    (subst (λ (k : ℕ). Swept G c.args.side.most c.args.side.safe c.args.x (RestsFirst G c.args.side.most c.args.side.safe c.args.x order k) c.loop-k.did c.args.ranks.now
    c.loop-k.ranks) all c.loop-k.invariant.1))
