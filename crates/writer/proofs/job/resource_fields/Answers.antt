-- `resource_fields` writes the kinds of the resources.
use mathlib.Core.Path.{◌≡◌, refl, sym, ◌∙◌}
use native.Mathlib.Omega.{arith}
use Rattle.block.specs.Layout.{resource_kind}
use Rattle.text.specs.Format.{write}
use Rattle.writer.proofs.Writing.{collected_none, collected_more, collected_all}
use Rattle.writer.proofs.job.resource_fields.Goals as goal

pub loop-j-init : goal.loop-j-init
loop-j-init c = (omega arith, ((omega arith, (refl, refl)), collected_none))

pub resource-requires : goal.resource-requires
resource-requires c = omega (arith, c.requires.0.sized.kinds_fit c.loop-j.j (omega arith), c.resource_kind-kind.ensures)

pub loop-j-preserved : goal.loop-j-preserved
loop-j-preserved c = (omega arith, ((omega arith, (cc, cc)), collected_more c.loop-j.invariant.1.1 (omega arith) (λ f. rw (c.resource_kind-kind.ensures, c.list_end.ensures.0) at (c.resource.ensures.adds (write (f (resource_kind c.args.block.now c.loop-j.j)) c.args.block.now)))))

pub returns-clause-past : goal.returns-clause-past
returns-clause-past c = let all : c.resources-resources.result ≡ c.loop-j.j = omega arith in
    collected_all (rw c.resources-resources.ensures at c.loop-j.invariant.1.1) (sym c.resources-resources.ensures ∙ all)
