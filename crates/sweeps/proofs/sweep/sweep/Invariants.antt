-- `sweep` goes over the states one after another, in either order.
use Prim.Native.Nat.{◌-◌, ◌≤◌}
use Rattle.game.specs.Model.{arena_of}
use Rattle.sweeps.specs.Sweeps.{visit, Swept}
use Rattle.sweeps.proofs.Sweeping.{RestsFirst}
use Rattle.sweeps.proofs.sweep.sweep.Given as goal

abbrev pub invariant-loop-k : goal.invariant-loop-k
invariant-loop-k l = (l.k ≤ l.n) × Swept (arena_of l.block l.row.index) l.side.most l.side.safe l.x
    (RestsFirst (arena_of l.block l.row.index) l.side.most l.side.safe l.x (visit l.back l.n) l.k) l.did l.initial.ranks l.ranks

abbrev pub decreases-loop-k : goal.decreases-loop-k
decreases-loop-k l = l.n - l.k
