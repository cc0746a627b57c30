-- `size` reads a size of the header.
use native.Mathlib.Numerals.{add-one}
use Rattle.text.specs.Job as J
use Rattle.reader.proofs.header.size.Goals as goal

pub returns-clause-by_index : goal.returns-clause-by_index
unfolding J.size
returns-clause-by_index c = rw (← add-one c.args.high) c.field.ensures.by_index
