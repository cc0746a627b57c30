-- `number` reads a number of a line.
use mathlib.Core.Path.{◌∙◌, ap}
use Prim.Native.Nat.{ℕ, ◌+◌}
use native.Mathlib.Omega.{arith}
use Rattle.ways.specs.Lines.{field_in}
use Rattle.ways.proofs.Filling.{line_at_small}
use Rattle.ways.proofs.lines.number.Goals as goal

pub overflow_add-line_at : goal.overflow_add-line_at
overflow_add-line_at c = record { fits = omega (arith, c.line_at.ensures, line_at_small c.args.ours, c.requires) }

pub field-requires : goal.field-requires
field-requires c = (c.requires.0, c.requires.1, omega (arith, c.line_at.ensures, line_at_small c.args.ours, c.requires.2))

pub returns : goal.returns
returns c = c.field.ensures.0 ∙ ap (λ (f : ℕ). field_in c.args.ways.now c.args.s (f + c.args.k)) c.line_at.ensures
