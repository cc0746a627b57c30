-- `resource_word` writes the word of a resource's kind.
use mathlib.Core.Path.{◌≡◌}
use native.Mathlib.Omega.{arith}
use Rattle.text.specs.Job.{resource_word}
use Rattle.writer.proofs.output.resource_word.Goals as goal

pub returns-in-0-clause-adds : goal.returns-in-0-clause-adds
unfolding resource_word
returns-in-0-clause-adds c = (λ rest. rw c.in-0.is (c.word.ensures.adds.0 rest), omega arith)

pub returns-in_default-clause-adds : goal.returns-in_default-clause-adds
unfolding resource_word
returns-in_default-clause-adds c = let last : c.args.k ≡ 1 = omega arith in
    (λ rest. rw last (c.word-in_default.ensures.adds.0 rest), omega arith)
