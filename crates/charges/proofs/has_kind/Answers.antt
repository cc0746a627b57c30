-- `has_kind` looks for the kind over the resources.
use mathlib.Core.Path.{refl}
use Rattle.std.proofs.Common.{rules, tests}
use Rattle.block.proofs.Chains.{any_below}
use Rattle.block.proofs.Decide as D
use Rattle.charges.proofs.has_kind.Goals as goal

pub returns : goal.returns
returns c = any_below (λ x b q h k. search (rules, tests, D.equal)) c.any.ensures.ran refl c.resources.ensures
