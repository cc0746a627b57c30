-- `leads_by` makes the reply, and looks where it leads.
use mathlib.Core.Bool.{false}
use mathlib.Core.List.{List}
use mathlib.Core.Path.{◌∙◌, ap, subst}
use Prim.Native.Nat.{ℕ, ◌+◌, ◌<◌}
use native.Mathlib.Omega.{arith}
use Rattle.block.specs.Decide.{Bit}
use Rattle.block.specs.Inner.Tests.{Decides}
use Rattle.block.specs.Inner.Valid.{Valid}
use Rattle.block.specs.Layout as L
use Rattle.block.specs.Layout.{Block}
use Rattle.game.specs.Position.{MoveOf}
use Rattle.game.specs.Model.{structure_of, coalition_of}
use Rattle.turns.specs.Inner.Rules.{ReplyTo}
use Rattle.turns.proofs.Opponents.{joint_small, next_small}
use Rattle.ways.specs.Lines.{count_in, number_in}
use Rattle.ways.specs.Listing.{LineOf}
use Rattle.ways.specs.Rows.{Playable}
use Rattle.ways.specs.declared.rows.Row.{Row}
use Rattle.ways.proofs.listing.leads_by.Goals as goal

-- with a listed reply the move is a joint action, and leads to a state
fits : (b : Block) → Valid b → (row : Row) → Playable b row → (ways : List ℕ) (s m k : ℕ) → s < L.states b → MoveOf (structure_of b) (coalition_of b row.index) s m
    → LineOf (ReplyTo b row.index s) (number_in ways s false) (count_in ways s false) → k < count_in ways s false
    → (m + number_in ways s false k < 64) × (L.next b s (m + number_in ways s false k) < 24)
fits b valid row playable ways s m k state move line small = let reply = line.only k small in (
  joint_small b valid row.index playable.inside playable.strategic s m (number_in ways s false k) state move reply,
  next_small b valid row.index playable.inside playable.strategic s m (number_in ways s false k) state move reply,
)

pub number-r-requires : goal.number-r-requires
number-r-requires c = (c.requires.playable.2, omega (arith, c.requires.playable.1, c.requires.valid.sized.states_fit), omega (arith, c.requires.line_of.1, c.requires.line_of.0.few))

pub overflow_add-m : goal.overflow_add-m
overflow_add-m c = record { fits = omega (arith, c.number-r.ensures, (fits c.args.block.now c.requires.valid c.args.row c.requires.playable.0 c.args.ways.now c.args.s c.args.m c.args.k c.requires.playable.1 c.requires.move_of c.requires.line_of.0 c.requires.line_of.1).0) }

pub next-requires : goal.next-requires
next-requires c = record { block_len = c.requires.valid.sized.bytes; s_lt_max_states = (omega (arith, c.requires.playable.1, c.requires.valid.sized.states_fit), omega (arith, c.number-r.ensures, (fits c.args.block.now c.requires.valid c.args.row c.requires.playable.0 c.args.ways.now c.args.s c.args.m c.args.k c.requires.playable.1 c.requires.move_of c.requires.line_of.0 c.requires.line_of.1).0)) }

pub has_bit-requires : goal.has_bit-requires
has_bit-requires c = omega (arith, c.next.ensures, ap (λ (r : ℕ). L.next c.args.block.now c.args.s (c.args.m + r)) c.number-r.ensures, (fits c.args.block.now c.requires.valid c.args.row c.requires.playable.0 c.args.ways.now c.args.s c.args.m c.args.k c.requires.playable.1 c.requires.move_of c.requires.line_of.0 c.requires.line_of.1).1)

pub returns : goal.returns
returns c = subst (λ (q : ℕ). Decides (Bit c.args.row.set q) c.has_bit.result) (c.next.ensures ∙ ap (λ (r : ℕ). L.next c.args.block.now c.args.s (c.args.m + r)) c.number-r.ensures) c.has_bit.ensures
