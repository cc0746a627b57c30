-- `reach_of` takes the sets of one move after another together.
use Prim.Native.Nat.{◌-◌, ◌≤◌}
use Rattle.boards.proofs.Words.{Joined}
use Rattle.boards.specs.Boards.{to_in}
use Rattle.boards.proofs.board.reach_of.Given as goal

abbrev pub invariant-loop-k : goal.invariant-loop-k
invariant-loop-k l = (l.k ≤ l.n) × Joined (to_in l.board l.s) l.k l.w

abbrev pub decreases-loop-k : goal.decreases-loop-k
decreases-loop-k l = l.n - l.k
