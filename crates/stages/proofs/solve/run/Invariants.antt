-- `run` turns the board over and goes on with stages as long as a place is due.
use Rattle.stages.proofs.Running.{Running, left_to_do}
use Rattle.stages.proofs.solve.run.Given as goal

abbrev pub invariant-loop-more : goal.invariant-loop-more
invariant-loop-more l = Running l.block l.row l.ways l.side.most l.side.safe l.goal l.initial.ranks l.board l.ranks l.flags l.n l.more

abbrev pub decreases-loop-more : goal.decreases-loop-more
decreases-loop-more l = left_to_do l.block l.row l.ranks l.more
