-- Which moves and replies there are in a row.
use Rattle.std.specs.Prelude.{Bool, true, false, ℕ}
use Rattle.block.specs.Layout.{Block}
use Rattle.game.specs.Position.{MoveOf, opponents}
use Rattle.game.specs.Model.{structure_of, coalition_of}

-- r is a reply to row i's coalition in state s
abbrev pub ReplyTo : Block → ℕ → ℕ → ℕ → Type 0
ReplyTo b i s r = MoveOf (structure_of b) (opponents (coalition_of b i)) s r

-- a move of row i's coalition where ours, and else a reply to it
abbrev pub SideMove : Block → ℕ → Bool → ℕ → ℕ → Type 0
SideMove b i true s m = MoveOf (structure_of b) (coalition_of b i) s m
SideMove b i false s m = ReplyTo b i s m
