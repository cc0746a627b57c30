-- `fill_sheet` makes the row ready and fills the words.
use mathlib.Core.Path.{sym, ◌∙◌}
use Rattle.sheets.proofs.fill_sheet.Goals as goal

pub fill_words-requires : goal.fill_words-requires
fill_words-requires c = record { made_ready = c.prepare-ready.ensures; words_len = c.requires.words_len }

pub returns : goal.returns
returns c = (c.fill_words.ensures, c.prepare-ready.ensures.long ∙ sym c.requires.i_bound.2)
