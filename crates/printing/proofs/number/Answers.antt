-- `number` is a field with room for eight digits.
use native.Mathlib.Omega.{arith}
use Rattle.printing.proofs.number.Goals as goal

pub field-requires : goal.field-requires
field-requires c = (8, (omega arith, (c.requires.1, omega arith)))

pub returns-clause-within : goal.returns-clause-within
returns-clause-within c = (omega (arith, c.field.ensures.by_index 8 (omega arith) c.requires.1), c.field.ensures.same_buffer)
