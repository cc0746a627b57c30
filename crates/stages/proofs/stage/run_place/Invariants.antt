-- `run_place` goes by the safe states, one after another.
use Prim.Native.Nat.{◌-◌, ◌≤◌}
use Rattle.stages.specs.Stages.{Evolved}
use Rattle.stages.proofs.Fronts.{PlaceTo}
use Rattle.stages.proofs.stage.run_place.Given as goal

abbrev pub invariant-loop-s : goal.invariant-loop-s
invariant-loop-s l =
    (l.s ≤ l.n) × Evolved l.block l.attack.row l.ways l.board l.attack.most l.attack.safe l.attack.stage l.initial.ranks l.initial.flags l.ranks l.flags
    × PlaceTo l.block l.attack.row l.ways l.board l.attack.most l.attack.safe l.ranks l.y l.fresh l.s

abbrev pub decreases-loop-s : goal.decreases-loop-s
decreases-loop-s l = l.n - l.s
