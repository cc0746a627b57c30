-- `ranked_within` gathers the states whose rank is in the range.
use Prim.Native.Nat.{◌-◌, ◌≤◌}
use Rattle.boards.proofs.Gathering.{Gathers, Below, Within}
use Rattle.boards.proofs.board.ranked_within.Given as goal

abbrev pub invariant-loop-s : goal.invariant-loop-s
invariant-loop-s l = (l.s ≤ l.states) × Gathers (Below (Within l.c l.ranks l.x l.low l.end) l.s) l.w

abbrev pub decreases-loop-s : goal.decreases-loop-s
decreases-loop-s l = l.states - l.s
