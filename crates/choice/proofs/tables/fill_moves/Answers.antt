-- `fill_moves` fills the moves from zeros on.
use mathlib.Core.Path.{sym, ◌∙◌, subst}
use Rattle.choice.specs.Choices.{Sought}
use Rattle.choice.specs.Filling.{MoveRight}
use Rattle.choice.proofs.Filling.{bytes_none, moves_all}
use Rattle.choice.proofs.tables.fill_moves.Goals as goal

pub fill_states-requires : goal.fill_states-requires
fill_states-requires c = record { valid = c.requires.valid; sought = (subst (Sought c.args.block.now c.args.row) (sym c.goal_of-goal.ensures) c.requires.sought.0, c.requires.sought.1, c.requires.sought.2, c.zeros.auto.buffer ∙ c.requires.sought.3); filled_to = bytes_none c.args.moves.now c.zeros.new.buffer c.zeros.ensures (MoveRight c.args.block.now c.args.row.index c.args.row.set c.args.ranks.now) }

pub returns : goal.returns
returns c = record { by_index = moves_all c.args.block.now c.requires.valid c.args.row c.requires.sought.0.playable c.fill_states.new.moves c.args.ranks.now c.fill_states.ensures.filled_to_2; moves_len_unchanged = c.fill_states.ensures.moves_len_unchanged ∙ c.zeros.auto.buffer }
