-- `number` is a field whose number has at most three digits.
use native.Mathlib.Omega.{arith}
use Rattle.writer.proofs.output.number.Goals as goal

pub field-requires : goal.field-requires
field-requires c = (3, (omega arith, (omega arith, omega arith)))

pub returns-clause-within : goal.returns-clause-within
returns-clause-within c = (
  (omega (arith, c.field.ensures.by_index 3 (omega arith) (omega arith)), c.field.ensures.same_buffer),
  λ h. (omega (arith, c.field.ensures.by_index 2 (omega arith) (omega arith)), c.field.ensures.same_buffer),
)
