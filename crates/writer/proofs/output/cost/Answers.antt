-- `cost` writes the number, or the minus and the charge.
use mathlib.Core.Path.{◌∙◌}
use native.Mathlib.Omega.{arith}
use Rattle.writer.proofs.Writing.{cost_number, cost_charge}
use Rattle.writer.proofs.output.cost.Goals as goal

pub returns-then-v-lt-CHARGE_BYTE-clause-adds : goal.returns-then-v-lt-CHARGE_BYTE-clause-adds
returns-then-v-lt-CHARGE_BYTE-clause-adds c = λ rest. rw (cost_number _ c.if-v-lt-CHARGE_BYTE.true) (c.number.ensures.adds rest)

pub field-requires : goal.field-requires
field-requires c = (2, (omega arith, (omega arith, omega arith)))

pub returns-else-v-lt-CHARGE_BYTE-clause-adds : goal.returns-else-v-lt-CHARGE_BYTE-clause-adds
returns-else-v-lt-CHARGE_BYTE-clause-adds c = λ rest. rw (cost_charge _ c.if-v-lt-CHARGE_BYTE.false (omega arith)) (c.field.ensures.adds rest ∙ c.put.ensures.adds.0 _)

pub returns-else-v-lt-CHARGE_BYTE-clause-within : goal.returns-else-v-lt-CHARGE_BYTE-clause-within
returns-else-v-lt-CHARGE_BYTE-clause-within c = (omega (arith, c.field.ensures.by_index 2 (omega arith) (omega arith)), (cc, cc))
