-- `plan_at` reads rank and move where the state stands at full stock.
use Prim.Native.Nat.{◌<◌}
use native.Mathlib.Omega.{arith}
use Rattle.game.specs.Model.{arena_of}
use Rattle.game.specs.Position.{full}
use Rattle.game.proofs.Bridge.Truth.{full_fits}
use Rattle.game.proofs.Blocks.Passing.{number_few}
use Rattle.report.proofs.plans.plan_at.Goals as goal
use Rattle.report.proofs.plans.plan_at.Lts as lts
use Rattle.report.proofs.plans.plan_at.Reads as reads
use Rattle.report.proofs.plans.plan_at.Tie as tie

abbrev At-After-full-p : Type 0
At-After-full-p = lts.After-full tie.the-claims reads.Pre reads.Post tie.handed_clauses

-- the position stands in the table
below : (c : At-After-full-p) → c.full-p.result < 6144
below c =
    let G = arena_of c.args.block.now c.args.i in
    omega (arith, c.full-p.ensures, number_few c.args.block.now c.requires.valid c.args.i c.requires.i_bound.0 c.requires.i_bound.1 (full G c.args.s) (full_fits G c.args.s c.requires.i_bound.2))

pub rank_at-requires : goal.rank_at-requires
rank_at-requires c = omega (arith, below c.before.before, c.requires.room_bytes_in_bounds.0)

pub bounds-moves-p : goal.bounds-moves-p
bounds-moves-p c = omega (arith, below c.before.before.before.before, c.requires.room_bytes_in_bounds.1)

pub returns-clause-adds : goal.returns-clause-adds
returns-clause-adds c = λ rest. rw (← c.full-p.ensures, ← c.rank_at.ensures.0) (c.plan_line.ensures.adds rest)
