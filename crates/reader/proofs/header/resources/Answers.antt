-- `resources` reads the kinds of the resources and keeps them.
use mathlib.Core.Path.{◌∙◌}
use native.Mathlib.Omega.{arith}
use lib.ListN.{length-set}
use Rattle.reader.proofs.Progress.{collected_more, collected_stop, collected_all}
use Rattle.scan.proofs.Reading.{stopped_with}
use Rattle.reader.proofs.header.resources.Goals as goal

pub returns-in_err-kind-clause-by_index : goal.returns-in_err-kind-clause-by_index
returns-in_err-kind-clause-by_index c =
    λ f. collected_stop c.loop-j.invariant.4 c.loop-j-test.true c.in_err-kind.ensures.by_index f
    ∙ stopped_with _ _ _ _ c.from_residual.ensures.1

pub loop-j-preserved : goal.loop-j-preserved
loop-j-preserved c = (
  c.in_ok-kind.ensures.inside_with.1,
  c.spelled.auto.job ∙ c.loop-j.invariant.1,
  omega arith,
  length-set c.loop-j.kinds c.loop-j.j c.in_ok-kind.kind.value ∙ c.loop-j.invariant.3,
  collected_more c.loop-j.invariant.4 c.in_ok-kind.kind.value c.loop-j-test.true c.in_ok-kind.ensures.by_index,
)

pub returns-clause-by_index : goal.returns-clause-by_index
returns-clause-by_index c = collected_all c.loop-j.invariant.4 c.loop-j-test.false
