-- The table that a coalition's part of a joint action is looked up in.
use Rattle.std.specs.Prelude.{List, ◌≡◌, ℕ, ◌+◌, ◌*◌, ◌^◌, ◌<◌, get_or}
use Rattle.block.specs.Layout.{max_agents, max_joint}
use Rattle.game.specs.Inner.Parts.{part_of}
use Rattle.game.specs.Model.{bit}

-- a table with the part of each joint action, team by team
pub record PartsTable (xs : List ℕ) : Type 0 where
  pub entry : (team m : ℕ) → team < 2 ^ max_agents → m < max_joint → get_or xs (max_joint * team + m) 0 ≡ part_of (bit team) m
