-- `value_by` tries one listed move after another, until no other changes anything.
use Rattle.sweeps.proofs.Trying.{TriedTo}
use Rattle.sweeps.proofs.value.value_by.Given as goal

abbrev pub invariant-loop-k : goal.invariant-loop-k
invariant-loop-k g l = TriedTo l.block l.row l.ways l.ranks l.spot.state l.spot.place l.most l.initial.v l.k l.v
