-- `next_states` gathers where the listed replies lead.
use Prim.Native.Nat.{◌-◌, ◌≤◌}
use Rattle.boards.proofs.Gathering.{Gathers, NamedBy, reply_next}
use Rattle.boards.proofs.board.next_states.Given as goal

abbrev pub invariant-loop-j : goal.invariant-loop-j
invariant-loop-j l = (l.j ≤ l.n) × Gathers (NamedBy (reply_next l.block l.ways l.s l.m) l.j) l.w

abbrev pub decreases-loop-j : goal.decreases-loop-j
decreases-loop-j l = l.n - l.j
