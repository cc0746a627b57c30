-- Listed moves and next states by words, and the moves and replies of positions: what either side can bring about in one step.
-- Assumes nothing.
use mathlib.Core.Bool.{true}
use mathlib.Core.List.{List}
use mathlib.Core.Path.{◌≡◌, refl, sym, ◌∙◌, ap, subst}
use Prim.Native.Nat.{ℕ, ◌+◌, ◌*◌, ◌<◌}
use native.Mathlib.Omega.{arith}
use Rattle.block.specs.Decide.{Bit}
use Rattle.block.specs.Layout as L
use Rattle.block.specs.Layout.{Block}
use Rattle.block.specs.Inner.Valid.{Valid}
use Rattle.game.specs.Position.{Arena, Position, Affordable, number, outcome, opponents}
use Rattle.game.specs.Inner.Facts.{CanForce, CanAnswer}
use Rattle.game.specs.Model.{structure_of, coalition_of, arena_of}
use Rattle.game.proofs.Blocks.Passing.{valid_proper}
use Rattle.game.proofs.Bridge.Moves.{idle_move}
use Rattle.game.proofs.Whole.Choices.{idle_allowed}
use Rattle.game.proofs.Numbers.Decide.{eq?}
use Rattle.turns.specs.Inner.Rules.{ReplyTo}
use Rattle.turns.proofs.Opponents.{next_state}
use Rattle.ways.specs.Lines.{count_in, number_in}
use Rattle.ways.specs.Listing.{Useful}
use Rattle.ways.specs.Places.{PlacedAt}
use Rattle.ways.specs.declared.rows.Row.{Row}
use Rattle.ways.proofs.Leading.{move_here, allowed_useful, lands_filled, reply_leads}
use Rattle.ways.proofs.Packing.{pays_covers}
use Rattle.ways.proofs.Placing.{place_position}
use Rattle.boards.specs.Boards.{to_in}
use Rattle.stages.specs.Stages.{Prepared, To}

module _ (b : Block) (valid : Valid b) (row : Row) (ways board : List ℕ) (ready : Prepared b row ways board) where
  abbrev G : Arena
  G = arena_of b row.index

  module _ (s : ℕ) (state : s < L.states b) where
    -- a listed move is one of the state
    way : (k : ℕ) → k < count_in ways s true → Useful b row s (number_in ways s true k)
    way k small = ((ready.listed.states s state).lines true).only k small

    pub to_inside : (x k y : ℕ) → To b row ways board s x k y → y < row.places
    to_inside x k y (_, lands) = omega (arith, lands.0, ready.playable.places_are)

    -- the next states are states
    pub next_inside : (k q : ℕ) → k < count_in ways s true → Bit (to_in board s k) q → q < L.states b
    next_inside k q small bit =
        let (r, reply, e) = (ready.nexts s k state small).only q bit in
        subst (λ (t : ℕ). t < L.states b) e (next_state b valid row.index ready.playable.inside ready.playable.strategic s (number_in ways s true k) r state (way k small).0.0 reply)

    -- there is one
    pub next_some : (k : ℕ) → k < count_in ways s true → (q : ℕ) × Bit (to_in board s k) q
    next_some k small =
        let reply = idle_move (structure_of b) (valid_proper b valid) (opponents (coalition_of b row.index)) s state in
        (_, (ready.nexts s k state small).each 0 reply)

    module _ (x : ℕ) (place : x < row.places) where
      -- a listed move that a position there pays lands somewhere
      pub paid_to : (k : ℕ) → k < count_in ways s true → (p : Position) → PlacedAt G s x p → Affordable G p (number_in ways s true k) → (y : ℕ) × To b row ways board s x k y
      paid_to k small p placed paid =
          let effects = (ready.listed.states s state).effects k small in
          let covers = pays_covers b valid row.index ready.playable.inside ready.playable.strategic ways ready.listed.packed s x (number_in ways s true k) (way k small).0.1 p placed paid in
          (_, (small, lands_filled b valid row ready.playable ways ready.listed s x k _ state place small (sym effects.0) covers _ refl))

      -- to idle comes first, and is paid
      pub idle_to : (0 < count_in ways s true) × ((y : ℕ) × To b row ways board s x 0 y)
      idle_to =
          let (p, placed) = place_position G s x state (omega (arith, ready.playable.places_are)) in
          let allowed = idle_allowed G (valid_proper b valid) p placed.fits in
          let (k, small, e) = ((ready.listed.states s state).lines true).each 0 (allowed_useful b valid row ready.playable ready.all s x p placed 0 allowed) in
          go p placed allowed.1 k small e (eq? k 0)
        where
          go : (p : Position) → PlacedAt G s x p → Affordable G p 0 → (k : ℕ) → k < count_in ways s true → number_in ways s true k ≡ 0 → Dec (k ≡ 0) → (0 < count_in ways s true) × ((y : ℕ) × To b row ways board s x 0 y)
          go p placed paid k small e (yes zero) =
              let some : 0 < count_in ways s true = omega arith in
              let first : number_in ways s true 0 ≡ 0 = ap (number_in ways s true) (sym zero) ∙ e in
              (some, paid_to 0 some p placed (subst (Affordable G p) (sym first) paid))
          go p placed paid k small e (no ne) = absurd (omega (arith, e, ((ready.listed.states s state).lines true).rising 0 k (omega arith) small))

      module _ (p : Position) (placed : PlacedAt G s x p) (P : ℕ → Type 0) where
        -- where the replies to a listed move lead
        leads : (k y : ℕ) → To b row ways board s x k y → (r : ℕ) → ReplyTo b row.index s r → number G (outcome G p (number_in ways s true k) r) ≡ L.next b s (number_in ways s true k + r) * row.places + y
        leads k y (small, lands) r reply =
            reply_leads b valid row ready.playable s (number_in ways s true k) y (state, (way k small).0.0, to_inside x k y (small, lands)) p placed.state (lands.1 p placed).1 r reply

        -- a move whose next states all have a property at its place
        pub all_force : (k y : ℕ) → To b row ways board s x k y → ((q : ℕ) → Bit (to_in board s k) q → P (q * row.places + y)) → CanForce G p (λ z. P (number G z))
        all_force k y (small, lands) each = (
          number_in ways s true k,
          move_here b valid row ready.playable s x (number_in ways s true k) p placed (way k small).0.0 (lands.1 p placed).0,
          λ r reply.
              let here = subst (λ (q : ℕ). ReplyTo b row.index q r) placed.state reply in
              subst P (sym (leads k y (small, lands) r here)) (each (L.next b s (number_in ways s true k + r)) ((ready.nexts s k state small).each r here)),
        )

        -- and moves each of which has such a next state
        pub some_answer : ((k y : ℕ) → To b row ways board s x k y → (q : ℕ) × Bit (to_in board s k) q × P (q * row.places + y)) → CanAnswer G p (λ z. P (number G z))
        some_answer each m allowed =
            let (k, small, e) = ((ready.listed.states s state).lines true).each m (allowed_useful b valid row ready.playable ready.all s x p placed m allowed) in
            let (y, to) = paid_to k small p placed (subst (Affordable G p) (sym e) allowed.1) in
            let (q, bit, holds) = each k y to in
            let (r, reply, next) = (ready.nexts s k state small).only q bit in
            let at = leads k y to r reply in (
              r,
              subst (λ (t : ℕ). ReplyTo b row.index t r) (sym placed.state) reply,
              subst (λ (j : ℕ). P (number G (outcome G p j r))) e (subst P (sym (at ∙ ap (λ (t : ℕ). t * row.places + y) next)) holds),
            )
