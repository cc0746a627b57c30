-- `first_enough` goes down from the end as far as numbers are enough; below one that is not, none is.
use mathlib.Core.Path.{◌≡◌, sym, ◌∙◌}
use Prim.Native.Nat.{◌+◌, ◌-◌}
use native.Mathlib.Omega.{arith}
use Rattle.block.proofs.Decide as D
use Rattle.allowances.proofs.Putting.{enough_more}
use Rattle.allowances.proofs.pairs.first_enough.Goals as goal

pub loop-y-init : goal.loop-y-init
loop-y-init c = ((c.requires.shows.1, omega arith), (λ less. absurd (omega arith)), c.requires.lent)

pub enough-requires : goal.enough-requires
enough-requires c = record { asking = c.requires.asking; shows = (c.requires.shows.0, c.requires.shows.2 (c.loop-y.y - 1) (omega (arith, c.loop-y-test.true)) (omega (arith, c.loop-y-test.true, c.loop-y.invariant.0))); lent = c.loop-y.invariant.2 }

pub shape_of-copy-then-not-enough : goal.shape_of-copy-then-not-enough
shape_of-copy-then-not-enough c = c.enough.ensures.lent_2.0 ∙ sym c.requires.lent.0

pub shape_of-ways-then-not-enough : goal.shape_of-ways-then-not-enough
shape_of-ways-then-not-enough c = c.enough.ensures.lent_2.1 ∙ sym c.requires.lent.1

pub shape_of-ranks-then-not-enough : goal.shape_of-ranks-then-not-enough
shape_of-ranks-then-not-enough c = c.enough.ensures.lent_2.2 ∙ sym c.requires.lent.2

pub returns-then-not-enough : goal.returns-then-not-enough
returns-then-not-enough c = let next : c.loop-y.y - 1 + 1 ≡ c.loop-y.y = omega (arith, c.loop-y-test.true) in record {
  first_enough = rw next (record {
    found = c.loop-y.invariant.1;
    none = λ v below from met.
        D.falsity c.enough.ensures.decides c.if-not-enough.true
        (enough_more c.requires.asking c.args.x v (c.loop-y.y - 1) c.requires.shows.0 (c.requires.shows.2 v from (omega (arith, c.loop-y.invariant.0))) (c.requires.shows.2 (c.loop-y.y - 1) (omega arith) (omega (arith, c.loop-y.invariant.0))) (omega arith) met);
    range = c.loop-y.invariant.0;
  });
  lent_2 = c.enough.ensures.lent_2;
}

pub loop-y-preserved : goal.loop-y-preserved
loop-y-preserved c = ((omega (arith, c.loop-y-test.true), omega (arith, c.loop-y.invariant.0)), (λ _. D.truth c.enough.ensures.decides c.if-not-enough.false), c.enough.ensures.lent_2)

pub shape_of-copy : goal.shape_of-copy
shape_of-copy c = c.loop-y.invariant.2.0 ∙ sym c.requires.lent.0

pub shape_of-ways : goal.shape_of-ways
shape_of-ways c = c.loop-y.invariant.2.1 ∙ sym c.requires.lent.1

pub shape_of-ranks : goal.shape_of-ranks
shape_of-ranks c = c.loop-y.invariant.2.2 ∙ sym c.requires.lent.2

pub returns : goal.returns
returns c = let least : c.args.range.first ≡ c.loop-y.y = omega (arith, c.loop-y-test.false, c.loop-y.invariant.0) in record {
  first_enough = record { found = rw least c.loop-y.invariant.1; none = λ v below from met. omega arith; range = (omega arith, c.requires.shows.1) };
  lent_2 = c.loop-y.invariant.2;
}
