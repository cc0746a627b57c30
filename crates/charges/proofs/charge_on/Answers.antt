-- `charge_on` tells a charge on a resource of the kind.
use Rattle.std.proofs.Common.{rules, tests}
use native.Mathlib.Omega.{arith}
use Rattle.block.specs.Layout.{charge_byte}
use Rattle.block.proofs.Decide as D
use Rattle.charges.proofs.charge_on.Goals as goal

pub returns-then-resource_kind-kind : goal.returns-then-resource_kind-kind
returns-then-resource_kind-kind c = D.same (D.at_most charge_byte c.cost_byte.result) (λ h. (omega arith, omega arith)) (λ h. omega arith)

pub returns-else-resource_kind-kind : goal.returns-else-resource_kind-kind
returns-else-resource_kind-kind c = D.no (search (rules, tests)) (λ h. omega arith)
