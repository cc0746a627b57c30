-- `list_pairs` goes over the first numbers, and lists with each the first second number that is enough and smaller than the last.
use mathlib.Core.Path.{sym, ◌∙◌, ap}
use Prim.Native.Nat.{ℕ}
use native.Mathlib.Omega.{arith}
use lib.ListN.{length, length-replicate}
use Rattle.allowances.specs.Allowances.{allowances_bytes}
use Rattle.allowances.proofs.Filling.{filled_none, filled_skip, filled_more, filled_as, filled_all}
use Rattle.allowances.proofs.pairs.list_pairs.Goals as goal
use Rattle.allowances.proofs.pairs.list_pairs.Goals.{then-y-end, else-y-end}

pub tried-xs-requires : goal.tried-xs-requires
tried-xs-requires c = record { valid = c.requires.asking.valid; i_bound = (c.requires.asking.inside, omega arith) }

pub tried-ys-requires : goal.tried-ys-requires
tried-ys-requires c = record { valid = c.requires.asking.valid; i_bound = (c.requires.asking.inside, omega arith) }

pub loop-x-init : goal.loop-x-init
loop-x-init c = (omega arith, (omega (arith, c.tried-xs.ensures.some), filled_none _ _ _ _ _ _ _ c.requires.list_value (omega (arith, c.tried-ys.ensures.some))), c.requires.lent)

pub first_enough-y-requires : goal.first_enough-y-requires
first_enough-y-requires c = record { asking = c.requires.asking; shows = ((c.tried-xs.ensures.each _).1 (c.loop-x.invariant.0, c.loop-x-test.true), c.loop-x.invariant.1.1.stairs.last.0, λ y l h. (c.tried-ys.ensures.each y).1 (l, omega (arith, c.loop-x.invariant.1.1.stairs.last.1))); lent = c.loop-x.invariant.2 }

pub store-requires : goal.store-requires
store-requires c = (omega (arith, c.loop-x.invariant.1.1.long, c.loop-x.invariant.1.1.stairs.few, c.tried-xs.ensures.few), omega (arith, c.tried-xs.ensures.bytes), omega (arith, c.if-y-end.true, c.loop-x.invariant.1.1.stairs.last.1, c.tried-ys.ensures.bytes))

pub overflow_add-n : goal.overflow_add-n
overflow_add-n c = omega (arith, c.loop-x.invariant.1.1.stairs.few, c.tried-xs.ensures.few, c.tried-xs.ensures.bytes, c.loop-x-test.true)

pub overflow_step-x : goal.overflow_step-x
overflow_step-x c = omega (arith, c.tried-xs.ensures.bytes, c.loop-x-test.true)

pub loop-x-smaller : goal.loop-x-smaller
loop-x-smaller c = omega (arith, c.loop-x-test.true)

pub loop-x-preserved : goal.loop-x-preserved
loop-x-preserved c = (
  omega (arith, c.loop-x.invariant.0),
  (
    omega arith,
    elim c.if-y-end.branch [
      | then-y-end w ↦
          filled_as (filled_more c.loop-x.invariant.1.1 c.first_enough-y.ensures.first_enough w.if-y-end.true c.loop-x.invariant.0 (omega (arith, c.loop-x.invariant.1.1.long, c.loop-x.invariant.1.1.stairs.few, c.tried-xs.ensures.few))) (w.list-is ∙ w.store.ensures) w.n-is w.end-is
      | else-y-end w ↦
          filled_as (filled_skip c.loop-x.invariant.1.1 c.first_enough-y.ensures.first_enough (λ h. omega (arith, w.if-y-end.false))) w.list-is w.n-is w.end-is
    ],
  ),
  c.first_enough-y.ensures.lent_2,
)

pub shape_of-list : goal.shape_of-list
shape_of-list c = c.loop-x.invariant.1.1.long ∙ sym (ap length c.requires.list_value ∙ length-replicate {A = ℕ} allowances_bytes 0)

pub shape_of-copy : goal.shape_of-copy
shape_of-copy c = c.loop-x.invariant.2.0 ∙ sym c.requires.lent.0

pub shape_of-ways : goal.shape_of-ways
shape_of-ways c = c.loop-x.invariant.2.1 ∙ sym c.requires.lent.1

pub shape_of-ranks : goal.shape_of-ranks
shape_of-ranks c = c.loop-x.invariant.2.2 ∙ sym c.requires.lent.2

pub returns : goal.returns
returns c = record { allowances_in = filled_all c.requires.asking.valid c.tried-xs.ensures c.tried-ys.ensures c.loop-x.invariant.1.1 (omega (arith, c.loop-x.invariant.1.0, c.loop-x-test.false)); lent_2 = c.loop-x.invariant.2 }
