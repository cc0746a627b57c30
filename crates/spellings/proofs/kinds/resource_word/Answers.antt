-- `resource_word` tries the two words, as the search does.
use mathlib.Core.Path.{ap}
use borrow.Author.Tests.{eq-eqb, ne_eqb}
use Rattle.std.specs.Prelude.{None}
use Rattle.std.specs.Option.{option_or}
use Rattle.tokens.specs.Inner.Found.{found_at}
use Rattle.tokens.proofs.WordsAt.{found_or}
use Rattle.spellings.proofs.Searches.{resource_search, or_nothing}
use Rattle.spellings.proofs.kinds.resource_word.Goals as goal

pub returns-then-left-eq0-clause-text_value : goal.returns-then-left-eq0-clause-text_value
returns-then-left-eq0-clause-text_value c =
    rw (
      resource_search,
      eq-eqb _ 0 c.if-left-eq0.true,
      ← found_or c.args.text.now c.word-sum.result None _ _ _ c.word-sum.ensures.result_value,
      ← found_or c.args.text.now c.word.result (option_or c.word-sum.result None) _ _ _ c.word.ensures.result_value,
    )
    (ap (found_at c.args.text.now) (simp (c.or.ensures, or_nothing)))

pub returns-clause-text_value : goal.returns-clause-text_value
returns-clause-text_value c =
    rw (
      resource_search,
      ne_eqb _ 0 c.if-left-eq0.false,
      ← found_or c.args.text.now c.word-sum-2.result None _ _ _ c.word-sum-2.ensures.result_value,
      ← found_or c.args.text.now c.word-2.result (option_or c.word-sum-2.result None) _ _ _ c.word-2.ensures.result_value,
    )
    (ap (found_at c.args.text.now) (simp (c.or-2.ensures, or_nothing)))
