-- `place_bad` tells an unused place that is not 0.
use mathlib.Core.Path.{sym, subst, ◌∙◌}
use Rattle.std.proofs.Common.{rules, tests}
use Rattle.block.specs.Layout.{InUse}
use Rattle.block.proofs.Decide as D
use Rattle.block.proofs.Places.{one_place, used_in_layout}
use Rattle.unused.proofs.place_bad.Goals as goal

pub returns-else-byte_at-ne0 : goal.returns-else-byte_at-ne0
returns-else-byte_at-ne0 c = D.no (search (rules, tests)) (λ x. x.1 (rw (← c.byte_at.ensures) c.if-byte_at-ne0.false))

pub returns-then-byte_at-ne0 : goal.returns-then-byte_at-ne0
returns-then-byte_at-ne0 c = D.opposite c.in_use.ensures
    (λ u bad. bad.0 (c.place_at.result, c.place_at.ensures.0, u))
    (λ idle. (λ used. idle (subst (InUse c.args.block.now) (one_place used.0 c.place_at.result (used_in_layout c.requires.sized.0 c.requires.sized.1 used.0 used.2) c.place_at.ensures.1 (used.1 ∙ sym c.place_at.ensures.0)) used.2), λ z. c.if-byte_at-ne0.true (rw c.byte_at.ensures z)))
