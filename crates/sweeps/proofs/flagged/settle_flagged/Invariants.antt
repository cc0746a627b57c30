-- `settle_flagged` goes round until no place is flagged; less is left to do each time.
use Rattle.game.specs.Model.{arena_of}
use Rattle.sweeps.proofs.Working.{Working, rounds_left}
use Rattle.sweeps.proofs.flagged.settle_flagged.Given as goal

abbrev pub invariant-loop-more : goal.invariant-loop-more
invariant-loop-more l = Working (arena_of l.block l.row.index) l.side.most l.side.safe l.more l.flags l.initial.ranks l.ranks

abbrev pub decreases-loop-more : goal.decreases-loop-more
decreases-loop-more l = rounds_left (arena_of l.block l.row.index) l.side.most l.side.safe l.more l.flags l.ranks
