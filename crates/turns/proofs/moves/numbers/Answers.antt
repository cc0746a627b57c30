-- `numbers` goes by the side's part of the largest joint action.
use mathlib.Core.Bool.{Bool}
use mathlib.Core.Path.{◌≡◌, sym, ◌∙◌, ap, subst}
use Prim.Native.Nat.{ℕ, ◌+◌, ◌-◌, ◌^◌, ◌≤◌, ◌<◌}
use native.Mathlib.Nat.{pow-le-pow_right}
use native.Mathlib.Omega.{arith}
use Rattle.block.specs.Layout as L
use Rattle.block.specs.Layout.{Block}
use Rattle.block.specs.Inner.Valid.{Valid}
use Rattle.game.specs.Position.{MoveOf}
use Rattle.game.specs.Inner.Parts.{part_of}
use Rattle.game.specs.Model.{bit, structure_of}
use Rattle.turns.specs.Inner.Rules.{SideMove}
use Rattle.turns.proofs.Opponents.{team_small, others_reply}
use Rattle.parts.proofs.Tables.{part_small}
use Rattle.turns.proofs.TeamMoves.{move_below}
use Rattle.turns.proofs.moves.numbers.Goals.{then-ours, else-ours}
use Rattle.turns.proofs.moves.numbers.Goals as goal

pub overflow_sub-side : goal.overflow_sub-side
overflow_sub-side c = omega (arith, c.team-team.ensures, team_small c.args.block.now c.requires.valid c.args.i c.requires.i_bound.0 c.requires.i_bound.1)

pub overflow_sub-joint_actions : goal.overflow_sub-joint_actions
overflow_sub-joint_actions c = let none : 0 ≤ L.agents c.args.block.now = omega arith in
    omega (arith, c.joint_actions.ensures.0, pow-le-pow_right {n = 4} (omega arith) none)

-- one more than the part r of the largest joint action is past the moves of a side, whose team this is
past : (b : Block) → Valid b → (i : ℕ) (ours : Bool) (team last r : ℕ) → last ≡ 4 ^ L.agents b - 1 → r ≡ part_of (bit team) last
    → ((s m : ℕ) → SideMove b i ours s m → MoveOf (structure_of b) (bit team) s m)
    → (r + 1 ≤ 64) × ((s m : ℕ) → s < L.states b → SideMove b i ours s m → m < r + 1)
past b valid i ours team last r largest part side = (
  omega (arith, part, part_small (bit team) last),
  λ s m state move. omega (arith, part ∙ ap (part_of (bit team)) largest, move_below b valid (bit team) s m state (side s m move)),
)

pub returns : goal.returns
returns c = let b = c.args.block.now in
    past b c.requires.valid c.args.i c.args.ours c.if-ours.side (c.joint_actions.result - 1) c.part.result (ap (◌- 1) c.joint_actions.ensures.0) c.part.ensures
    (λ s m move.
    elim c.if-ours.branch [
      | then-ours w ↦ subst (λ (t : ℕ). MoveOf (structure_of b) (bit t) s m) (sym (w.side-is ∙ c.team-team.ensures)) (subst (λ (t : Bool). SideMove b c.args.i t s m) w.if-ours.true move)
      | else-ours w ↦ subst (λ (t : ℕ). MoveOf (structure_of b) (bit t) s m) (sym (w.side-is ∙ ap (λ (n : ℕ). 7 - n) c.team-team.ensures))
          ((others_reply b c.requires.valid c.args.i c.requires.i_bound.0 c.requires.i_bound.1 s m).1 (subst (λ (t : Bool). SideMove b c.args.i t s m) w.if-ours.false move))
    ])
