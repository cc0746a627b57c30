-- `set_number` stores a number of a line.
use mathlib.Core.Path.{◌∙◌, ap}
use Prim.Native.Nat.{ℕ, ◌+◌}
use native.Mathlib.Omega.{arith}
use lib.ListN.{set}
use Rattle.ways.specs.Lines.{field_place}
use Rattle.ways.proofs.Filling.{line_at_small}
use Rattle.ways.proofs.lines.set_number.Goals as goal

pub overflow_add-line_at : goal.overflow_add-line_at
overflow_add-line_at c = record { fits = omega (arith, c.line_at.ensures, line_at_small c.args.ours, c.requires) }

pub set_field-requires : goal.set_field-requires
set_field-requires c = (c.requires.0, c.requires.1, omega (arith, c.line_at.ensures, line_at_small c.args.ours, c.requires.2))

pub returns : goal.returns
returns c = c.set_field.ensures ∙ ap (λ (f : ℕ). set c.args.ways.now (field_place c.args.s (f + c.args.k)) c.args.m) c.line_at.ensures
