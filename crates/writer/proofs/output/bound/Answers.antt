-- `bound` writes inf for an unlimited bound, else the number.
use native.Mathlib.Omega.{arith}
use Rattle.text.specs.Job.{bound_field}
use Rattle.writer.proofs.Writing.{bound_number}
use Rattle.writer.proofs.output.bound.Goals as goal

pub returns-then-v-eq-UNLIMITED-clause-adds : goal.returns-then-v-eq-UNLIMITED-clause-adds
unfolding bound_field
returns-then-v-eq-UNLIMITED-clause-adds c = λ rest. rw c.if-v-eq-UNLIMITED.true (c.word.ensures.adds.0 rest)

pub returns-else-v-eq-UNLIMITED-clause-adds : goal.returns-else-v-eq-UNLIMITED-clause-adds
returns-else-v-eq-UNLIMITED-clause-adds c = λ rest. rw (bound_number _ (omega arith) c.if-v-eq-UNLIMITED.false) (c.number.ensures.adds rest)
