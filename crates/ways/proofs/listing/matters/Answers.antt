-- `matters` asks where the move leads, if that matters.
use borrow.Author.Tests.{not-true, not-false}
use Rattle.block.specs.Inner.Tests.{holds}
use Rattle.block.proofs.Decide as D
use Rattle.ways.proofs.Filling.{apart}
use Rattle.ways.proofs.listing.matters.Goals as goal

pub returns-then-not-row : goal.returns-then-not-row
returns-then-not-row c = rw c.if-not-row.true (holds (λ into. absurd (apart c.args.row.into into (not-true _ c.if-not-row.true))))

pub returns-else-not-row : goal.returns-else-not-row
returns-else-not-row c = D.same c.leads_into.ensures (λ leads _. leads) (λ where_to. where_to (not-false _ c.if-not-row.false))
