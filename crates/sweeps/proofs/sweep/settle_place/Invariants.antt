-- `settle_place` sweeps until a sweep does nothing; the sum of the ranks falls till then.
use Rattle.game.specs.Model.{arena_of}
use Rattle.sweeps.proofs.Sweeping.{Sweeping, left_to_do}
use Rattle.sweeps.proofs.sweep.settle_place.Given as goal

abbrev pub invariant-loop-more : goal.invariant-loop-more
invariant-loop-more l = Sweeping (arena_of l.block l.row.index) l.side.most l.side.safe l.x l.fell l.more l.initial.ranks l.ranks

abbrev pub decreases-loop-more : goal.decreases-loop-more
decreases-loop-more l = left_to_do (arena_of l.block l.row.index) l.side.most l.side.safe l.x l.more l.ranks
