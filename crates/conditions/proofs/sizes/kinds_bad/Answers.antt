-- `kinds_bad` looks for a bad kind over the resources.
use mathlib.Core.Path.{refl}
use Rattle.std.proofs.Common.{rules, tests}
use Rattle.block.proofs.Chains.{any_below}
use Rattle.block.proofs.Decide as D
use Rattle.conditions.proofs.sizes.kinds_bad.Goals as goal

pub returns : goal.returns
returns c = any_below (λ j b q h k. search (rules, tests, D.less)) c.any.ensures.ran refl c.resources.ensures
