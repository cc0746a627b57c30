-- `run_state` carries back one move after another, where it serves newly; nothing where no state that it leads to is newly won.
use Prim.Native.Nat.{◌-◌, ◌≤◌}
use Rattle.stages.specs.Stages.{Evolved}
use Rattle.stages.proofs.Fronts.{StateTo}
use Rattle.stages.proofs.stage.run_state.Given as goal

abbrev pub invariant-loop-k : goal.invariant-loop-k
invariant-loop-k l =
    (l.k ≤ l.n) × Evolved l.block l.attack.row l.ways l.board l.attack.most l.attack.safe l.attack.stage l.initial.ranks l.initial.flags l.ranks l.flags
    × StateTo l.block l.attack.row l.ways l.board l.attack.most l.ranks l.front.place l.front.fresh l.front.state l.k

abbrev pub decreases-loop-k : goal.decreases-loop-k
decreases-loop-k l = l.n - l.k
