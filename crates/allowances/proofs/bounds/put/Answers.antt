-- `put` stores the bounds of the resources that there are.
use mathlib.Core.Path.{◌≡◌, sym, subst}
use native.Mathlib.Omega.{arith}
use lib.ListN.{length}
use Rattle.block.specs.Layout.{Block}
use Rattle.allowances.specs.Inner.Pairs.{pair}
use Rattle.allowances.proofs.Putting.{PutTo, put_none, put_next}
use Rattle.allowances.proofs.bounds.put.Goals as goal
use Rattle.allowances.proofs.bounds.put.Lts as lts
use Rattle.allowances.proofs.bounds.put.Reads as reads
use Rattle.allowances.proofs.bounds.put.Tie as tie

abbrev At-After-set_bound : Type 0
At-After-set_bound = lts.After-set_bound tie.the-claims reads.Pre reads.Post tie.handed_clauses

-- the first bound
module _ (c : At-After-set_bound) where
  first : PutTo c.args.i (pair c.args.x c.args.y) c.args.block.now c.set_bound.new.block 1
  first =
      subst (λ (b : Block). PutTo c.args.i (pair c.args.x c.args.y) c.args.block.now b 1) (sym c.set_bound.ensures)
      (put_next (put_none c.args.i (pair c.args.x c.args.y) c.args.block.now c.requires.valid.sized.resources_fit.1) (omega arith) (omega arith))

  long : length c.set_bound.new.block ≡ length c.args.block.now
  long = first.only.long

pub returns-then-n-gt1 : goal.returns-then-n-gt1
returns-then-n-gt1 c = let before = first c.before.before.before.before.before.before.before.before in
    let both : PutTo c.args.i (pair c.args.x c.args.y) c.args.block.now c.set_bound-then-n-gt1.new.block 2 =
    subst (λ (b : Block). PutTo c.args.i (pair c.args.x c.args.y) c.args.block.now b 2) (sym c.set_bound-then-n-gt1.ensures)
    (put_next before (omega (arith, c.resources-n.ensures, c.if-n-gt1.true)) (omega (arith, long c.before.before.before.before.before.before.before.before))) in
    record { only = both.only; bounds = λ j l. both.bounds j (omega (arith, c.requires.valid.sized.resources_fit)) }

pub returns-else-n-gt1 : goal.returns-else-n-gt1
returns-else-n-gt1 c = let before = first c.before.before.before.before in
    record { only = before.only; bounds = λ j l. before.bounds j (omega (arith, c.resources-n.ensures, c.if-n-gt1.false)) }
