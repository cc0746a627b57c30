-- `list_set` takes the lowest state above those listed.
use mathlib.Core.Path.{◌≡◌, sym, ◌∙◌, subst}
use Prim.Native.Nat.{ℕ, ◌+◌, ◌≤◌, ◌<◌}
use native.Mathlib.Omega.{arith}
use lib.Count.{ones-le}
use lib.ListN.{set}
use Rattle.block.specs.Decide.{Bit}
use Rattle.turns.proofs.Bytes.{cleared}
use Rattle.turns.specs.Listed.{Lists}
use Rattle.turns.proofs.Listing.{Listing, listing_none, left_over, listing_next, listing_all}
use Rattle.turns.proofs.sets.list_set.Goals as goal
use Rattle.turns.proofs.sets.list_set.Lts as lts
use Rattle.turns.proofs.sets.list_set.Reads as reads
use Rattle.turns.proofs.sets.list_set.Tie as tie

abbrev At-After-lowest : Type 0
At-After-lowest = lts.After-lowest tie.the-claims reads.Pre reads.Post goal.the-invariant-loop-k goal.the-decreases-loop-k

pub loop-k-init : goal.loop-k-init
loop-k-init c = (omega arith, listing_none c.args.set c.zeros.new.buffer (cleared c.args.list.now c.zeros.new.buffer 24 c.zeros.ensures c.requires.1))

pub overflow_shr-set : goal.overflow_shr-set
overflow_shr-set c = omega (arith, c.loop-k.invariant.1.near)

pub lowest-requires : goal.lowest-requires
lowest-requires c = left_over c.args.set c.requires.0 c.loop-k.list c.loop-k.k c.loop-k.from c.loop-k.invariant.1 (omega (arith, c.loop-k-test.true, c.count-n.ensures))

-- the list with one state more, at the place where one was found
listed : (c : At-After-lowest) → Listing c.args.set (set c.loop-k.list c.loop-k.k (c.loop-k.from + c.lowest.result)) (c.loop-k.k + 1) (c.loop-k.from + c.lowest.result + 1)
listed c = listing_next c.args.set c.requires.0 c.loop-k.list c.loop-k.k c.loop-k.from c.lowest.result c.loop-k.invariant.1 c.lowest.ensures

near : (c : At-After-lowest) → c.loop-k.from + c.lowest.result + 1 ≤ 24
near c = (listed c).near

inside : (c : At-After-lowest) → c.loop-k.k < 24
inside c = omega (arith, c.loop-k-test.true, c.count-n.ensures, ones-le 24 c.args.set c.requires.0)

pub overflow_add-s : goal.overflow_add-s
overflow_add-s c = omega (arith, near c)

pub overflow_cast-list : goal.overflow_cast-list
overflow_cast-list c = omega (arith, near c)

pub bounds-list-k : goal.bounds-list-k
bounds-list-k c = omega (arith, c.loop-k.invariant.1.long, (listed c).long, inside c)

pub overflow_add-from : goal.overflow_add-from
overflow_add-from c = omega (arith, near c)

pub overflow_step-k : goal.overflow_step-k
overflow_step-k c = omega arith

pub loop-k-smaller : goal.loop-k-smaller
loop-k-smaller c = omega arith

pub loop-k-preserved : goal.loop-k-preserved
loop-k-preserved c = (omega (arith, c.loop-k-test.true), listed c)

pub shape_of-list : goal.shape_of-list
shape_of-list c = c.loop-k.invariant.1.long ∙ sym c.requires.1

pub returns : goal.returns
returns c = let n = c.count-n.ensures in let k : c.loop-k.k ≡ c.count-n.result = omega (arith, c.loop-k.invariant.0, c.loop-k-test.false) in
    (subst (λ (n : ℕ). Lists (Bit c.args.set) c.loop-k.list n) k (listing_all c.args.set c.requires.0 c.loop-k.list c.loop-k.k c.loop-k.from c.loop-k.invariant.1 (k ∙ n)), n)
