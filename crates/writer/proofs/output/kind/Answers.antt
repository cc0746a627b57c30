-- `kind` writes the word of a row.
use mathlib.Core.Path.{◌≡◌}
use native.Mathlib.Omega.{arith}
use Rattle.text.specs.Job.{kind_word}
use Rattle.writer.proofs.output.kind.Goals as goal

pub returns-in-0-clause-adds : goal.returns-in-0-clause-adds
unfolding kind_word
returns-in-0-clause-adds c = λ rest. rw c.in-0.is (c.word.ensures.adds.0 rest)

pub returns-in-1-clause-adds : goal.returns-in-1-clause-adds
unfolding kind_word
returns-in-1-clause-adds c = λ rest. rw c.in-1.is (c.word-in-1.ensures.adds.0 rest)

pub returns-in-2-clause-adds : goal.returns-in-2-clause-adds
unfolding kind_word
returns-in-2-clause-adds c = λ rest. rw c.in-2.is (c.word-in-2.ensures.adds.0 rest)

pub returns-in-3-clause-adds : goal.returns-in-3-clause-adds
unfolding kind_word
returns-in-3-clause-adds c = λ rest. rw c.in-3.is (c.word-in-3.ensures.adds.0 rest)

pub returns-in-4-clause-adds : goal.returns-in-4-clause-adds
unfolding kind_word
returns-in-4-clause-adds c = λ rest. rw c.in-4.is (c.word-in-4.ensures.adds.0 rest)

pub returns-in_default-clause-adds : goal.returns-in_default-clause-adds
unfolding kind_word
returns-in_default-clause-adds c = let last : c.args.k ≡ 5 = omega arith in
    λ rest. rw last (c.word-in_default.ensures.adds.0 rest)
