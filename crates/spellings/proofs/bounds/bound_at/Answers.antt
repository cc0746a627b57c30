-- `bound_at` tries nothing, then inf, then a number, as the search does.
use mathlib.Core.Path.{ap}
use Rattle.std.specs.Option.{option_or}
use Rattle.tokens.specs.Inner.Found.{found_at}
use Rattle.tokens.proofs.WordsAt.{found_or}
use Rattle.spellings.proofs.Searches.{bound_search, or_assoc}
use Rattle.spellings.proofs.bounds.bound_at.Goals as goal

pub returns-clause-text_value : goal.returns-clause-text_value
returns-clause-text_value c =
    let from_inf = option_or c.word-2.result c.number.result in
    rw (
      bound_search,
      c.number.ensures.text_value,
      ← found_or c.args.text.now c.word-2.result c.number.result _ _ _ c.word-2.ensures.result_value,
      ← found_or c.args.text.now c.word.result from_inf _ _ _ c.word.ensures.result_value,
    )
    (ap (found_at c.args.text.now) (simp (c.or-2.ensures, c.or.ensures, or_assoc)))
