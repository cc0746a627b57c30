-- `digits` stores all digits but the last by its own call, then the last.
use mathlib.Core.List.{append_assoc}
use mathlib.Core.Path.{◌∙◌}
use native.Mathlib.Omega.{arith}
use Rattle.text.proofs.Decimals.{decimal_one, decimal_more, fewer}
use Rattle.text.proofs.output.+digits.Goals as goal

pub returns-then-n-lt10-clause-adds : goal.returns-then-n-lt10-clause-adds
returns-then-n-lt10-clause-adds t c = λ rest. rw (decimal_one _ c.if-n-lt10.true) (c.digit.ensures.0 rest)

pub digit-requires-2 : goal.digit-requires-2
digit-requires-2 t c =
    let (k, (some, (small, room))) = c.requires in
    let (j, (e, (more, less))) = fewer k _ c.if-n-lt10.false small in
    (omega (arith, c.digits-last.ensures.by_index j more less), omega arith)

pub returns-clause-adds : goal.returns-clause-adds
returns-clause-adds t c = λ rest. rw (decimal_more _ c.if-n-lt10.false, append_assoc) (c.digit-2.ensures.0 rest ∙ c.digits-last.ensures.adds _)

pub returns-clause-by_index : goal.returns-clause-by_index
returns-clause-by_index t c = λ k some small. let (j, (e, (some, less))) = fewer k _ c.if-n-lt10.false small in omega (arith, c.digit-2.ensures.1, c.digits-last.ensures.by_index j some less)
