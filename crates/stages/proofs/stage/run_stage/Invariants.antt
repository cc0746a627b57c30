-- `run_stage` goes by the due places, one after another.
use Prim.Native.Nat.{◌-◌, ◌≤◌}
use Rattle.stages.specs.Stages.{Evolved}
use Rattle.stages.proofs.Fronts.{StageTo}
use Rattle.stages.proofs.stage.run_stage.Given as goal

abbrev pub invariant-loop-y : goal.invariant-loop-y
invariant-loop-y l =
    (l.y ≤ l.c) × Evolved l.block l.attack.row l.ways l.board l.attack.most l.attack.safe l.attack.stage l.initial.ranks l.initial.flags l.ranks l.flags
    × StageTo l.block l.attack.row l.ways l.board l.attack.most l.attack.safe l.attack.stage l.initial.ranks l.initial.flags l.ranks l.y

abbrev pub decreases-loop-y : goal.decreases-loop-y
decreases-loop-y l = l.c - l.y
