-- `bad` decides number 13: it looks for charges on max resources, where there are any.
use Rattle.block.proofs.Decide as D
use Rattle.charges.proofs.bad.Goals as goal

pub returns-then-has_kind : goal.returns-then-has_kind
returns-then-has_kind c = c.any.ensures

pub returns-else-has_kind : goal.returns-else-has_kind
returns-else-has_kind c = D.no c.if-has_kind.false (λ (s, _, (a, _, (k, _, (j, small, (is, _))))). D.falsity c.has_kind.ensures c.if-has_kind.false (j, small, is))
