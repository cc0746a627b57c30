-- A coalition's part of a joint action, by its number.
use Rattle.std.specs.Prelude.{ℕ}
use Rattle.block.specs.Layout.{digit, max_agents}
use Rattle.game.specs.Rbatl.{Coalition}
use Rattle.game.specs.Position.{joint, part}

-- A's part of the joint action with number m: the digits of A's agents, and 0 for the others
abbrev pub part_of : Coalition → ℕ → ℕ
part_of A m = joint max_agents (part A (digit m))
