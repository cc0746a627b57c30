-- `move_of` goes by the goal.
use mathlib.Core.Path.{ap, subst}
use Rattle.rankings.specs.Kinds.{kind_of}
use Rattle.choice.specs.Choices.{Sought}
use Rattle.choice.proofs.tables.move_of.Goals as goal

pub next_move-requires : goal.next_move-requires
next_move-requires c = record { valid = c.requires.valid; sought = (subst (Sought c.args.block.now c.args.row) (ap kind_of c.in-Next.is) c.requires.sought.0, c.requires.sought.1, c.requires.sought.2); state_bound = c.requires.state_bound }
