-- `is_reply` asks whether the number is a move of the other agents.
use mathlib.Core.Path.{subst}
use Prim.Native.Nat.{ℕ, ◌-◌}
use native.Mathlib.Omega.{arith}
use Rattle.block.specs.Inner.Tests.{Decides}
use Rattle.block.proofs.Decide as D
use Rattle.game.specs.Position.{MoveOf}
use Rattle.game.specs.Model.{bit, structure_of}
use Rattle.turns.proofs.Opponents.{team_small, others_reply}
use Rattle.turns.proofs.moves.is_reply.Goals as goal

pub overflow_sub-team : goal.overflow_sub-team
overflow_sub-team c = omega (arith, c.team.ensures, team_small c.args.block.now c.requires.valid c.args.i c.requires.i_bound.0 c.requires.i_bound.1)

pub returns : goal.returns
returns c = let same = others_reply c.args.block.now c.requires.valid c.args.i c.requires.i_bound.0 c.requires.i_bound.1 c.args.s c.args.r in
    D.same
    (subst (λ (team : ℕ). Decides (MoveOf (structure_of c.args.block.now) (bit (7 - team)) c.args.s c.args.r) c.is_move.result) c.team.ensures c.is_move.ensures)
    same.0
    same.1
