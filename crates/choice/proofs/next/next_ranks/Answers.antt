-- `next_ranks` fills the ranks from zeros on.
use mathlib.Core.Path.{◌∙◌}
use Rattle.choice.specs.Filling.{NextRight}
use Rattle.choice.proofs.Filling.{words_none, next_all}
use Rattle.choice.proofs.next.next_ranks.Goals as goal

pub next_states-requires : goal.next_states-requires
next_states-requires c = record { valid = c.requires.valid; playable = (c.requires.playable.0, c.requires.playable.1, c.requires.playable.2, c.zeros.auto.buffer ∙ c.requires.playable.3); filled_to = words_none c.args.ranks.now c.zeros.new.buffer c.zeros.ensures (NextRight c.args.block.now c.args.row.index c.args.row.set) }

pub returns : goal.returns
returns c = (next_all c.args.block.now c.requires.valid c.args.row c.requires.playable.0 c.next_states.new.ranks c.next_states.ensures.filled_to_2, c.next_states.ensures.ranks_len_unchanged ∙ c.zeros.auto.buffer)
