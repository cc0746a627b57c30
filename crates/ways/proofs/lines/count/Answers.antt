-- `count` reads the count of a line.
use mathlib.Core.Path.{◌∙◌, ap}
use native.Mathlib.Omega.{arith}
use Rattle.ways.specs.Lines.{field_in}
use Rattle.ways.proofs.Filling.{count_at_small}
use Rattle.ways.proofs.lines.count.Goals as goal

pub field-requires : goal.field-requires
field-requires c = (c.requires.0, c.requires.1, omega (arith, c.count_at.ensures, count_at_small c.args.ours))

pub returns : goal.returns
returns c = c.field.ensures.0 ∙ ap (field_in c.args.ways.now c.args.s) c.count_at.ensures
