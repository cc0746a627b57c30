-- `is_eligible` asks for a reply, or for a move: where it leads, if that matters, and what it costs.
use mathlib.Core.Bool.{Bool, false}
use mathlib.Core.Path.{◌≡◌, sym, ◌∙◌, subst}
use Prim.Native.Nat.{ℕ}
use Rattle.block.specs.Inner.Tests.{Decides, fails}
use Rattle.block.proofs.Decide as D
use Rattle.block.specs.Layout as L
use Rattle.block.specs.Layout.{Block}
use Rattle.game.specs.Position.{MoveOf}
use Rattle.game.specs.Model.{bit, structure_of, coalition_of}
use Rattle.ways.specs.Listing.{Eligible}
use Rattle.ways.specs.declared.rows.Row.{Row}
use Rattle.ways.proofs.Filling.{apart}
use Rattle.ways.proofs.listing.is_eligible.Goals as goal
use Rattle.ways.proofs.listing.is_eligible.Goals.{then-is_move, else-is_move}

pub returns-then-not-ours : goal.returns-then-not-ours
returns-then-not-ours c = subst (λ (t : Bool). Decides (Eligible c.args.block.now c.args.row c.args.s t c.args.m) c.is_reply.result) (sym c.if-not-ours.true) c.is_reply.ensures

-- whether the number is a move
asked : (b : Block) (row : Row) (s m team : ℕ) (t : Bool) → team ≡ L.team b row.index → Decides (MoveOf (structure_of b) (bit team) s m) t → Decides (MoveOf (structure_of b) (coalition_of b row.index) s m) t
asked b row s m team t is = subst (λ (team : ℕ). Decides (MoveOf (structure_of b) (bit team) s m) t) is

pub matters-requires-clause-move_of : goal.matters-requires-clause-move_of
matters-requires-clause-move_of c = D.truth (asked c.args.block.now c.args.row c.args.s c.args.m _ _ c.team.ensures c.is_move.ensures) c.if-is_move.true

pub payable_at_all-requires-clause-move_of : goal.payable_at_all-requires-clause-move_of
payable_at_all-requires-clause-move_of c = elim c.if-is_move.branch [
  | then-is_move w ↦ D.truth (asked c.args.block.now c.args.row c.args.s c.args.m _ _ c.team.ensures c.is_move.ensures) w.if-is_move.true
  | else-is_move w ↦ absurd (apart c.if-is_move.value c.if-matters.true (w.value-is ∙ w.if-is_move.false))
]

pub returns-then-matters : goal.returns-then-matters
returns-then-matters c = subst (λ (t : Bool). Decides (Eligible c.args.block.now c.args.row c.args.s t c.args.m) c.payable_at_all.result) (sym c.if-not-ours.false) (elim c.if-is_move.branch [
  | then-is_move w ↦ let move = D.truth (asked c.args.block.now c.args.row c.args.s c.args.m _ _ c.team.ensures c.is_move.ensures) w.if-is_move.true in
      D.same c.payable_at_all.ensures (λ paid. ((move, paid), D.truth w.matters.ensures (sym w.value-is ∙ c.if-matters.true))) (λ useful. useful.0.1)
  | else-is_move w ↦ absurd (apart c.if-is_move.value c.if-matters.true (w.value-is ∙ w.if-is_move.false))
])

pub returns-else-matters : goal.returns-else-matters
returns-else-matters c = rw c.if-matters.false (subst (λ (t : Bool). Decides (Eligible c.args.block.now c.args.row c.args.s t c.args.m) false) (sym c.if-not-ours.false) (fails (λ useful. elim c.if-is_move.branch [
  | then-is_move w ↦ D.falsity w.matters.ensures (sym w.value-is ∙ c.if-matters.false) useful.1
  | else-is_move w ↦ D.falsity (asked c.args.block.now c.args.row c.args.s c.args.m _ _ c.team.ensures c.is_move.ensures) w.if-is_move.false useful.0.0
])))
