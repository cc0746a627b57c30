-- `fire_span` touches one place of the span after another.
use Prim.Native.Nat.{◌-◌, ◌≤◌, ◌<◌}
use Rattle.stages.proofs.Carrying.{Carried}
use Rattle.stages.proofs.fire.fire_span.Given as goal

abbrev pub invariant-loop-x : goal.invariant-loop-x
invariant-loop-x l =
    Carried l.block l.fire.row l.ways l.board l.fire.most l.fire.safe l.fire.stage l.fire.state l.fire.index l.fire.place (λ z. (l.initial.x ≤ z) × (z < l.x)) l.initial.ranks l.initial.flags l.ranks l.flags

abbrev pub decreases-loop-x : goal.decreases-loop-x
decreases-loop-x l = l.end - l.x
