-- `set_count` stores a count of a line.
use mathlib.Core.Path.{◌∙◌, ap}
use Prim.Native.Nat.{ℕ}
use native.Mathlib.Omega.{arith}
use lib.ListN.{set}
use Rattle.ways.specs.Lines.{field_place}
use Rattle.ways.proofs.Filling.{count_at_small}
use Rattle.ways.proofs.lines.set_count.Goals as goal

pub set_field-requires : goal.set_field-requires
set_field-requires c = (c.requires.0, c.requires.1, omega (arith, c.count_at.ensures, count_at_small c.args.ours))

pub returns : goal.returns
returns c = c.set_field.ensures ∙ ap (λ (f : ℕ). set c.args.ways.now (field_place c.args.s f) c.args.n) c.count_at.ensures
