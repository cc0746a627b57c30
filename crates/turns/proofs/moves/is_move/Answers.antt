-- `is_move` asks whether the number is the team's part of itself, and whether it can be done.
use mathlib.Core.Path.{◌≡◌, sym, ◌∙◌}
use Prim.Native.Nat.{ℕ, ◌<◌}
use native.Mathlib.Omega.{arith}
use Rattle.block.specs.Layout.{Block, Available, states}
use Rattle.block.specs.Inner.Valid.{Valid}
use Rattle.block.proofs.Decide as D
use Rattle.game.specs.Position.{MoveOf}
use Rattle.game.specs.Inner.Parts.{part_of}
use Rattle.game.specs.Model.{bit, structure_of}
use Rattle.turns.proofs.TeamMoves.{move_part, part_move}
use Rattle.turns.proofs.moves.is_move.Goals.{then-m-lt-JOINT_ACTIONS, else-m-lt-JOINT_ACTIONS}
use Rattle.turns.proofs.moves.is_move.Goals as goal

-- what a move is, and what makes a number one
module _ (b : Block) (valid : Valid b) (team s m : ℕ) (state : s < states b) where
  told : MoveOf (structure_of b) (bit team) s m → (m < 64) × (part_of (bit team) m ≡ m) × Available b s m
  told = move_part b valid (bit team) s m state

  makes : m < 64 → part_of (bit team) m ≡ m → Available b s m → MoveOf (structure_of b) (bit team) s m
  makes = part_move b valid (bit team) s m state

pub returns-then-part-m : goal.returns-then-part-m
returns-then-part-m c =
    elim c.if-m-lt-JOINT_ACTIONS.branch [
      | then-m-lt-JOINT_ACTIONS w ↦ let own = D.truth (D.equal w.part.result c.args.m) (cc) in
          D.same c.available.ensures
          (makes c.args.block.now c.requires.valid c.args.team c.args.s c.args.m c.requires.s_bound w.if-m-lt-JOINT_ACTIONS.true (sym w.part.ensures ∙ own))
          (λ move. (told c.args.block.now c.requires.valid c.args.team c.args.s c.args.m c.requires.s_bound move).2)
      | else-m-lt-JOINT_ACTIONS w ↦ let small = D.truth (D.less c.args.m 64) (cc) in absurd (omega (arith, small))
    ]

pub returns-else-part-m : goal.returns-else-part-m
returns-else-part-m c = D.no c.if-part-m.false
    (λ move.
    let is = told c.args.block.now c.requires.valid c.args.team c.args.s c.args.m c.requires.s_bound move in
    elim c.if-m-lt-JOINT_ACTIONS.branch [
      | then-m-lt-JOINT_ACTIONS w ↦ D.falsity (D.equal w.part.result c.args.m) (cc) (w.part.ensures ∙ is.1)
      | else-m-lt-JOINT_ACTIONS w ↦ omega (arith, is.0)
    ])
