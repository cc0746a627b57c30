-- `kind_at` tries the words of the rows one after the other, as the search does.
use mathlib.Core.Path.{ap}
use Rattle.std.specs.Prelude.{None}
use Rattle.std.specs.Option.{option_or}
use Rattle.tokens.specs.Inner.Found.{found_at}
use Rattle.tokens.proofs.WordsAt.{found_or, inside_or}
use Rattle.spellings.proofs.Searches.{kind_search, or_assoc, or_nothing}
use Rattle.spellings.proofs.kinds.kind_at.Goals as goal

pub returns-clause-text_value : goal.returns-clause-text_value
returns-clause-text_value c =
    let from_prop = option_or c.word-6.result None in
    let from_not = option_or c.word-5.result from_prop in
    let from_or = option_or c.word-4.result from_not in
    let from_next = option_or c.word-3.result from_or in
    let from_always = option_or c.word-2.result from_next in
    rw (
      kind_search,
      ← found_or c.args.text.now c.word-6.result None _ _ _ c.word-6.ensures.result_value,
      ← found_or c.args.text.now c.word-5.result from_prop _ _ _ c.word-5.ensures.result_value,
      ← found_or c.args.text.now c.word-4.result from_not _ _ _ c.word-4.ensures.result_value,
      ← found_or c.args.text.now c.word-3.result from_or _ _ _ c.word-3.ensures.result_value,
      ← found_or c.args.text.now c.word-2.result from_next _ _ _ c.word-2.ensures.result_value,
      ← found_or c.args.text.now c.word.result from_always _ _ _ c.word.ensures.result_value,
    )
    (ap (found_at c.args.text.now) (simp (c.or-5.ensures, c.or-4.ensures, c.or-3.ensures, c.or-2.ensures, c.or.ensures, or_assoc, or_nothing)))

pub returns-clause-inside_found : goal.returns-clause-inside_found
returns-clause-inside_found c =
    let t = c.args.text.now in
    let to_always = inside_or t c.word.result c.word-2.result c.or.result c.or.ensures c.word.ensures.inside_found c.word-2.ensures.inside_found in
    let to_next = inside_or t c.or.result c.word-3.result c.or-2.result c.or-2.ensures to_always c.word-3.ensures.inside_found in
    let to_or = inside_or t c.or-2.result c.word-4.result c.or-3.result c.or-3.ensures to_next c.word-4.ensures.inside_found in
    let to_not = inside_or t c.or-3.result c.word-5.result c.or-4.result c.or-4.ensures to_or c.word-5.ensures.inside_found in
    inside_or t c.or-4.result c.word-6.result c.or-5.result c.or-5.ensures to_not c.word-6.ensures.inside_found
