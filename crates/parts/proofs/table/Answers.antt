-- `table` is the table of parts: antt computes the test of its rule over all entries.
use Rattle.parts.proofs.Tables.{right?, tabled}
use Rattle.parts.proofs.table.Goals as goal

pub returns : goal.returns
unfolding right?
returns c = tabled _ tt
