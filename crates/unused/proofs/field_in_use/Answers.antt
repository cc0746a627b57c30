-- `field_in_use` tells whether a row exists and uses a field.
use Rattle.std.proofs.Common.{rules, tests}
use native.Mathlib.Omega.{arith}
use Rattle.block.proofs.Decide as D
use Rattle.unused.proofs.field_in_use.Goals as goal

pub returns-then-i-rows : goal.returns-then-i-rows
returns-then-i-rows c = D.same c.uses_field.ensures (λ h. (omega arith, rw (← c.kind.ensures) h)) (λ x. rw c.kind.ensures x.1)

pub returns-else-i-rows : goal.returns-else-i-rows
returns-else-i-rows c = D.no (search (rules, tests)) (λ x. omega arith)
