-- `plan_lines` writes the line of the lowest state above those written.
use Prim.Native.Nat.{◌-◌}
use Rattle.block.specs.Layout as L
use Rattle.turns.specs.Buffers.{table_in}
use Rattle.report.proofs.Planning.{Planned}
use Rattle.report.proofs.plans.plan_lines.Given as goal

abbrev pub invariant-loop-from : goal.invariant-loop-from
invariant-loop-from l = Planned l.block l.i l.set (table_in l.ranks l.moves) l.initial.out l.out l.from

abbrev pub decreases-loop-from : goal.decreases-loop-from
decreases-loop-from l = L.states l.block - l.from
