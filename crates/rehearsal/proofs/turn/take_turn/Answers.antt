-- `take_turn` looks the reply up, and makes the team's move where it lands.
use mathlib.Core.Bool.{false}
use mathlib.Core.List.{List}
use mathlib.Core.Path.{sym, subst}
use Prim.Native.Nat.{ℕ}
use native.Mathlib.Omega.{arith}
use Rattle.std.specs.Prelude.{None, Some}
use Rattle.block.specs.Layout.{Block}
use Rattle.game.specs.Model.{arena_of, objective_of}
use Rattle.turns.specs.Inner.Rules.{ReplyTo}
use Rattle.turns.proofs.Opponents.{joint_small}
use Rattle.ways.specs.Lines.{count_in, number_in, FoundAt}
use Rattle.ways.specs.Listing.{LineOf}
use Rattle.ways.specs.declared.rows.Row.{Row}
use Rattle.lookup.specs.Inner.Spots.{SpotMove}
use Rattle.rehearsal.specs.Inner.Turns.{Turned}
use Rattle.rehearsal.proofs.Turning.{turned_to, never_unpaid, never_reply}
use Rattle.rehearsal.proofs.turn.take_turn.Goals as goal

-- the number is found where it is a reply
module _ (b : Block) (row : Row) (ways : List ℕ) (s : ℕ) (line : LineOf (ReplyTo b row.index s) (number_in ways s false) (count_in ways s false)) (r : ℕ) where
  replied : (k : ℕ) → FoundAt ways s false r (Some k) → ReplyTo b row.index s r
  replied k found = subst (ReplyTo b row.index s) found.1 (line.only k found.0)

  unreplied : FoundAt ways s false r None → ReplyTo b row.index s r → ⊥
  unreplied found reply = let (j, small, is) = line.each r reply in found j small is

pub find-requires : goal.find-requires
find-requires c = (c.requires.made_ready.ranked.listed.long, omega (arith, c.requires.state_bound.0, c.requires.made_ready.valid.sized.states_fit), ((c.requires.made_ready.ranked.listed.states c.args.spot.state c.requires.state_bound.0).lines false).few)

pub returns-in_err-find : goal.returns-in_err-find
returns-in_err-find c p placed wins = rw c.from_residual.ensures
    (never_reply c.args.block.now c.requires.made_ready.valid c.args.ready.row c.args.spot.state c.args.spot.place 0 c.args.r c.args.i c.requires.made_ready.ranked.index_is
    (unreplied c.args.block.now c.args.ready.row c.args.ways.now c.args.spot.state ((c.requires.made_ready.ranked.listed.states c.args.spot.state c.requires.state_bound.0).lines false) c.args.r c.in_err-find.ensures)
    p placed)

pub spot_move-requires : goal.spot_move-requires
spot_move-requires c = record { made_ready = c.requires.made_ready; state_bound = c.requires.state_bound }

pub way_to-requires : goal.way_to-requires
way_to-requires c = record { valid = c.requires.made_ready.valid; playable = (c.requires.made_ready.ranked.sought.playable, c.requires.made_ready.ranked.listed); state_bound = c.requires.state_bound }

pub overflow_add-m : goal.overflow_add-m
overflow_add-m c =
    let reply = replied c.args.block.now c.args.ready.row c.args.ways.now c.args.spot.state ((c.requires.made_ready.ranked.listed.states c.args.spot.state c.requires.state_bound.0).lines false) c.args.r c.in_ok-find.field-0 c.in_ok-find.ensures in
    record { fits = omega (arith, joint_small c.args.block.now c.requires.made_ready.valid c.args.ready.row.index c.requires.made_ready.ranked.sought.playable.inside c.requires.made_ready.ranked.sought.playable.strategic c.args.spot.state c.from-m.result c.args.r c.requires.state_bound.0 c.in_ok-y.ensures.0 reply) }

pub next-requires : goal.next-requires
next-requires c =
    let reply = replied c.args.block.now c.args.ready.row c.args.ways.now c.args.spot.state ((c.requires.made_ready.ranked.listed.states c.args.spot.state c.requires.state_bound.0).lines false) c.args.r c.in_ok-find.field-0 c.in_ok-find.ensures in
    record {
      block_len = c.requires.made_ready.valid.sized.bytes;
      s_lt_max_states = (
        omega (arith, c.requires.state_bound.0, c.requires.made_ready.valid.sized.states_fit),
        joint_small c.args.block.now c.requires.made_ready.valid c.args.ready.row.index c.requires.made_ready.ranked.sought.playable.inside c.requires.made_ready.ranked.sought.playable.strategic c.args.spot.state c.from-m.result c.args.r c.requires.state_bound.0 c.in_ok-y.ensures.0 reply,
      );
    }

pub returns : goal.returns
returns c p placed wins =
    let reply = replied c.args.block.now c.args.ready.row c.args.ways.now c.args.spot.state ((c.requires.made_ready.ranked.listed.states c.args.spot.state c.requires.state_bound.0).lines false) c.args.r c.in_ok-find.field-0 c.in_ok-find.ensures in
    let move = subst (SpotMove c.args.block.now c.args.i c.args.ready.row p) (sym c.from-m.ensures) (c.spot_move.ensures p placed) in
    subst (λ (q : ℕ). Turned (arena_of c.args.block.now c.args.i) (objective_of c.args.block.now c.args.i) p c.args.r (Some (record { state = q; place = c.in_ok-y.y }))) (sym c.next.ensures)
    (turned_to c.args.block.now c.requires.made_ready.valid c.args.ready.row c.args.spot.state c.args.spot.place c.from-m.result c.args.r c.args.i c.requires.made_ready.ranked.index_is c.in_ok-y.y
    reply c.in_ok-y.ensures p placed (move.move (λ none. move.none none wins)))

pub returns-in_err-y : goal.returns-in_err-y
returns-in_err-y c p placed wins =
    let move = subst (SpotMove c.args.block.now c.args.i c.args.ready.row p) (sym c.from-m.ensures) (c.spot_move.ensures p placed) in
    absurd (never_unpaid c.args.block.now c.requires.made_ready.valid c.args.ready.row c.args.spot.state c.args.spot.place c.from-m.result c.args.r c.args.i c.requires.made_ready.ranked.index_is
    c.in_err-y.ensures p placed move (λ none. move.none none wins))
