-- `needed` adds, from row i downwards, what each needed row names.
use mathlib.Core.Path.{◌≡◌, subst}
use Prim.Native.Nat.{ℕ, ◌+◌, ◌-◌, ◌<◌}
use native.Mathlib.Omega.{arith}
use Rattle.block.proofs.Decide as D
use Rattle.solver.proofs.Needing.{NeedsFrom, needs_first, needs_with, needs_skip, needs_all}
use Rattle.solver.proofs.needs.needed.Goals as goal
use Rattle.solver.proofs.needs.needed.Lts as lts
use Rattle.solver.proofs.needs.needed.Reads as reads
use Rattle.solver.proofs.needs.needed.Tie as tie

abbrev At-In-loop-j : Type 0
At-In-loop-j = lts.In-loop tie.the-claims reads.Pre reads.Post goal.the-invariant-loop-j goal.the-decreases-loop-j tie.handed_clauses

pub with_named-w-requires : goal.with_named-w-requires
with_named-w-requires c = record { valid = c.requires.valid; i_bound = (c.requires.i_bound, omega arith) }

pub loop-j-init : goal.loop-j-init
loop-j-init c = needs_first c.args.block.now c.requires.valid c.args.i c.requires.i_bound c.with_named-w.ensures

-- the row that is looked at
below : (c : At-In-loop-j) → (c.loop-j.j - 1 < c.args.i) × (c.loop-j.j ≡ c.loop-j.j - 1 + 1)
below c = (omega (arith, c.loop-j-test.true, c.loop-j.invariant.few), omega (arith, c.loop-j-test.true))

pub has_bit-requires : goal.has_bit-requires
has_bit-requires c = omega (arith, (below c.before).0, c.requires.i_bound, c.requires.valid.sized.rows_fit)

pub with_named-w-requires-then-has_bit : goal.with_named-w-requires-then-has_bit
with_named-w-requires-then-has_bit c = record { valid = c.requires.valid; i_bound = (omega (arith, (below c.before.before.before).0, c.requires.i_bound), c.loop-j.invariant.small) }

pub loop-j-preserved-then-has_bit : goal.loop-j-preserved-then-has_bit
loop-j-preserved-then-has_bit c = needs_with c.args.block.now c.requires.valid c.args.i c.requires.i_bound c.loop-j.invariant (c.loop-j.j - 1) (below c.before.before.before.before).1 (D.truth c.has_bit.ensures c.if-has_bit.true) c.with_named-w-then-has_bit.ensures

pub loop-j-preserved : goal.loop-j-preserved
loop-j-preserved c = needs_skip c.args.block.now c.requires.valid c.args.i c.requires.i_bound c.loop-j.invariant (c.loop-j.j - 1) (below c.before.before.before).1 (D.falsity c.has_bit.ensures c.if-has_bit.false)

pub returns : goal.returns
returns c = let done : c.loop-j.j ≡ 0 = omega (arith, c.loop-j-test.false) in
    needs_all c.args.block.now c.requires.valid c.args.i c.requires.i_bound (subst (λ (n : ℕ). NeedsFrom c.args.block.now c.args.i n c.loop-j.w) done c.loop-j.invariant)
