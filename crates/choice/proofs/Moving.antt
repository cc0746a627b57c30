-- The coalition's move at a position: from the worst of its outcomes to a good move, and from the first good one that is listed to the table's.
-- Assumes nothing.
use mathlib.Core.Bool.{true, false}
use mathlib.Core.List.{List}
use mathlib.Core.Logic.{⊎_elim}
use mathlib.Core.Path.{◌≡◌, refl, sym, ◌∙◌, ap, subst, transport}
use Prim.Native.Nat.{ℕ, ◌+◌, ◌*◌, ◌<◌}
use native.Mathlib.Omega.{arith}
use lib.Dec.{eqb, ltb}
use lib.ListN.{get_or}
use borrow.Author.Tests.{eqb-true, ne_eqb}
use Rattle.block.specs.Decide.{Bit}
use Rattle.block.specs.Inner.Tests.{Decides}
use Rattle.block.specs.Layout as L
use Rattle.block.specs.Layout.{Block}
use Rattle.block.specs.Inner.Valid.{Valid}
use Rattle.block.proofs.Decide as D
use Rattle.game.specs.Position.{Arena, Position, IsPosition, MoveOf, number, Reply, Allowed, outcome}
use Rattle.game.specs.Inner.Stocks.{stock_places}
use Rattle.game.specs.Play.{Objective}
use Rattle.game.specs.Table.{Table, never, Aim, Good, Met, Smallest}
use Rattle.game.specs.Inner.Facts.{Claims}
use Rattle.game.specs.Model.{structure_of, coalition_of, arena_of}
use Rattle.game.specs.Inner.Words.{objective_by}
use Rattle.game.proofs.Blocks.Passing.{valid_proper}
use Rattle.game.proofs.Blocks.Reading.{outcome_state}
use Rattle.game.proofs.Local.Exist.{good_exists}
use Rattle.game.proofs.Numbers.Decide.{eq?}
use Rattle.game.proofs.Whole.Choices.{idle_allowed}
use Rattle.turns.specs.Buffers.{rank_in}
use Rattle.choice.specs.Tables.{table_with, RanksOf, MoveFor}
use Rattle.turns.specs.Inner.Rules.{ReplyTo}
use Rattle.ways.specs.Extremes.{Further, Worst}
use Rattle.ways.specs.Lines.{count_in, number_in}
use Rattle.ways.specs.Listing.{LeadsInto, Useful, StateListed}
use Rattle.ways.specs.Places.{PlacedAt}
use Rattle.ways.specs.declared.rows.Row.{Row}
use Rattle.ways.specs.Rows.{Playable}
use Rattle.ways.proofs.Leading.{ever_allowed, free_allowed, allowed_useful}
use Rattle.ways.proofs.Placing.{number_placed}
use Rattle.choice.specs.Choices.{Sought, GoodBy}
use Rattle.rankings.specs.Kinds.{ClaimsBy, MetBy, AimBy}
use Rattle.choice.proofs.Searching.{line_first, line_none}
use Rattle.rankings.proofs.ByKind.{claims_by, met_by, aim_by, zero_met, met_zero}

-- the worst of a move's outcomes, cut off at a limit, tells of all of them
module _ (G : Arena) (ranks : List ℕ) (p : Position) (m w v : ℕ) where
  pub until_aimed : (own : ℕ) → Worst G true (rank_in ranks) p m w → Further false w own v
      → Decides ((r : ℕ) → Reply G p r → rank_in ranks (number G (outcome G p m r)) < own) (ltb v own)
  until_aimed own worst cut = D.same (D.less v own)
      (λ less r reply. ⊎_elim (λ (e : v ≡ w). omega (arith, worst.each r reply)) (λ (e : v ≡ own). absurd (omega arith)) cut.taken)
      (λ all. let (r, reply, e) = worst.some in omega (arith, all r reply, e, cut.first))

  pub always_aimed : ((k : ℕ) → get_or ranks k 0 < 256) → Worst G false (rank_in ranks) p m w → Further true w 65534 v
      → Decides ((r : ℕ) → Reply G p r → rank_in ranks (number G (outcome G p m r)) ≡ never) (eqb v 65535)
  always_aimed bytes worst cut = D.same (D.equal v 65535)
      (λ e r reply.
      let n = number G (outcome G p m r) in
      ⊎_elim (λ (e' : v ≡ w). omega (arith, worst.each r reply, bytes (2 * n), bytes (2 * n + 1))) (λ (e' : v ≡ 65534). absurd (omega arith)) cut.taken)
      (λ all. let (r, reply, e) = worst.some in ⊎_elim (λ (e' : v ≡ w). omega (arith, all r reply, e)) (λ (e' : v ≡ 65534). absurd (omega (arith, all r reply, e, cut.first))) cut.taken)

-- the stock places of a row
pub places_of : (b : Block) (row : Row) (i : ℕ) → Playable b row → row.index ≡ i → row.places ≡ stock_places (arena_of b i)
places_of b row i playable is = playable.places_are ∙ ap (λ (j : ℕ). stock_places (arena_of b j)) is

-- a position with the number of a place of a state stands there
pub spot_placed : (b : Block) (row : Row) → Playable b row → (s x : ℕ) → s < L.states b → x < row.places → (p : Position) → IsPosition (arena_of b row.index) p → number (arena_of b row.index) p ≡ s * row.places + x → PlacedAt (arena_of b row.index) s x p
spot_placed b row playable s x state place p fits is =
    number_placed (arena_of b row.index) s x state (omega (arith, playable.places_are)) p fits (is ∙ ap (λ (n : ℕ). s * n + x) playable.places_are)

module _ (b : Block) (valid : Valid b) (row : Row) where
  abbrev G : Arena
  G = arena_of b row.index

  -- whatever the reply, the outcome is in the set where the move leads into it, and only there
  module _ (s m : ℕ) (p : Position) (is_state : p.state ≡ s) (move : MoveOf (structure_of b) (coalition_of b row.index) p.state m) where
    pub outcome_next : (r : ℕ) → Reply G p r → (outcome G p m r).state ≡ L.next b s (m + r)
    outcome_next r reply = outcome_state b (valid_proper b valid) row.index p m r move reply ∙ ap (λ (q : ℕ). L.next b q (m + r)) is_state

    pub into_aimed : LeadsInto b row.index s m row.set → (r : ℕ) → Reply G p r → Bit row.set (outcome G p m r).state
    into_aimed into r reply = subst (Bit row.set) (sym (outcome_next r reply)) (into r (subst (λ (q : ℕ). ReplyTo b row.index q r) is_state reply))

    pub aimed_into : ((r : ℕ) → Reply G p r → Bit row.set (outcome G p m r).state) → LeadsInto b row.index s m row.set
    aimed_into all r reply = let here = subst (λ (q : ℕ). ReplyTo b row.index q r) (sym is_state) reply in subst (Bit row.set) (outcome_next r here) (all r here)

  module _ (kind : ℕ) (sought : Sought b row kind) (ranks : List ℕ) (s x own : ℕ) (p : Position) (placed : PlacedAt G s x p) where
    -- the smallest good move is listed: in a next row one that takes nothing is good at every position
    next_aim : row.into ≡ true → (m r : ℕ) → AimBy kind row.set own (outcome G p m r).state (rank_in ranks (number G (outcome G p m r))) ≡ Bit row.set (outcome G p m r).state
    next_aim into m r = ap (λ (k : ℕ). AimBy k row.set own (outcome G p m r).state (rank_in ranks (number G (outcome G p m r)))) (eqb-true kind 3 (sym sought.into_is ∙ into))

    good_useful : (m : ℕ) → GoodBy b row ranks kind own p m → ((k : ℕ) → k < m → GoodBy b row ranks kind own p k → ⊥) → Useful b row s m
    good_useful m (allowed, all) none = (
      ever_allowed b valid row sought.playable s x m p placed allowed,
      λ into. aimed_into s m p placed.state allowed.0 (λ r reply. transport (next_aim into m r) (all r reply)),
      λ into k less free.
          let paid = free_allowed b valid row sought.playable s x k p placed free in
          none k less (paid, λ r reply. transport (sym (next_aim into k r)) (into_aimed s k p placed.state paid.0 free.1 r reply)),
    )

    module _ (own_is : rank_in ranks (number G p) ≡ own) (right : ℕ) where
      abbrev told : Objective
      told = objective_by (L.kind b row.index) row.set right

      module _ (move : ℕ → ℕ) where
        abbrev X : Table
        X = table_with ranks move

        claimed : ClaimsBy kind own ≡ Claims G X told p
        claimed = ap (λ (k : ℕ). ClaimsBy k own) sought.kind_is ∙ ap (ClaimsBy (L.kind b row.index)) (sym own_is) ∙ claims_by G X (L.kind b row.index) row.set right p

        meets : MetBy kind own ≡ Met G X told p
        meets = ap (λ (k : ℕ). MetBy k own) sought.kind_is ∙ ap (MetBy (L.kind b row.index)) (sym own_is) ∙ met_by G X (L.kind b row.index) row.set right p

        met_is : Met G X told p → own ≡ 0
        met_is met = met_zero kind own (transport (sym meets) met)

        aims : (m r : ℕ) → AimBy kind row.set own (outcome G p m r).state (rank_in ranks (number G (outcome G p m r))) ≡ Aim G X told p (outcome G p m r)
        aims m r =
            ap (λ (k : ℕ). AimBy k row.set own (outcome G p m r).state (rank_in ranks (number G (outcome G p m r)))) sought.kind_is
            ∙ ap (λ (k : ℕ). AimBy (L.kind b row.index) row.set k (outcome G p m r).state (rank_in ranks (number G (outcome G p m r)))) (sym own_is)
            ∙ aim_by G X (L.kind b row.index) row.set right p (outcome G p m r)

        good : (m : ℕ) → GoodBy b row ranks kind own p m → Good G X told p m
        good m (allowed, all) = (allowed, λ r reply. transport (aims m r) (all r reply))

        by_good : (m : ℕ) → Good G X told p m → GoodBy b row ranks kind own p m
        by_good m (allowed, all) = (allowed, λ r reply. transport (sym (aims m r)) (all r reply))

      -- where the coalition does not win
      pub move_lost : (ClaimsBy kind own → ⊥) → MoveFor b row.index row.set right ranks p 255
      move_lost loses move = record {
        lost = λ _. refl;
        met = λ claim. absurd (loses (transport (sym (claimed move)) claim));
        best = λ claim. absurd (loses (transport (sym (claimed move)) claim));
      }

      -- where until is met
      pub move_met : ClaimsBy kind own → own ≡ 0 → MoveFor b row.index row.set right ranks p 0
      move_met claim zero move = record {
        lost = λ loses. absurd (loses (transport (claimed move) claim));
        met = λ _ _. refl;
        best = λ _ unmet. absurd (unmet (transport (meets move) (zero_met kind own claim zero)));
      }

      -- and elsewhere: the smallest good move, which there is where the ranks are the row's
      module _ (claim : ClaimsBy kind own) (later : own ≡ 0 → ⊥) where
        move_found : (m : ℕ) → Smallest (GoodBy b row ranks kind own p) m → MoveFor b row.index row.set right ranks p m
        move_found m (here, none) move = record {
          lost = λ loses. absurd (loses (transport (claimed move) claim));
          met = λ _ met. absurd (later (met_is move met));
          best = λ _ _. (good move m here, λ k less h. none k less (by_good move k h));
        }

        move_exists : RanksOf b row.index row.set right ranks → ((m : ℕ) → GoodBy b row ranks kind own p m → ⊥) → ⊥
        move_exists ranked none =
            let move : ℕ → ℕ = λ n. 0 in
            let (m, h) = good_exists G (X move) told ranked.facts p placed.fits (transport (claimed move) claim) (λ met. later (met_is move met)) in
            none m (by_good move m h)

        -- so the first good one that is listed goes with the ranks, and there is one
        module _ (ways : List ℕ) (listed : StateListed b row s ways) where
          pub first_found : (k : ℕ) → k < count_in ways s true → ((j : ℕ) → j < k → GoodBy b row ranks kind own p (number_in ways s true j) → ⊥) → GoodBy b row ranks kind own p (number_in ways s true k)
              → MoveFor b row.index row.set right ranks p (number_in ways s true k)
          first_found k small none here = move_found (number_in ways s true k) (line_first (Useful b row s) (GoodBy b row ranks kind own p) (listed.lines true) good_useful k small none here)

          pub some_listed : RanksOf b row.index row.set right ranks → ((j : ℕ) → j < count_in ways s true → GoodBy b row ranks kind own p (number_in ways s true j) → ⊥) → ⊥
          some_listed ranked none = move_exists ranked (line_none (Useful b row s) (GoodBy b row ranks kind own p) (listed.lines true) good_useful none)

      -- the move that goes with the ranks is listed and paid, where the coalition wins
      pub move_listed : ClaimsBy kind own → (m : ℕ) → MoveFor b row.index row.set right ranks p m → Useful b row s m × Allowed G p m
      move_listed claim m found = go (eq? own 0) (eq? kind 3)
        where
          move : ℕ → ℕ
          move n = 0

          won : Claims G (X move) told p
          won = transport (claimed move) claim

          idle : Allowed G p 0
          idle = idle_allowed G (valid_proper b valid) p placed.fits

          go : Dec (own ≡ 0) → Dec (kind ≡ 3) → Useful b row s m × Allowed G p m
          go (yes zero) (yes e) = absurd (omega (arith, subst (λ (k : ℕ). ClaimsBy k own) e claim))
          go (yes zero) (no ne) =
              subst (λ (k : ℕ). Useful b row s k × Allowed G p k) (sym ((found move).met won (transport (meets move) (zero_met kind own claim zero))))
              (allowed_useful b valid row sought.playable (sought.into_is ∙ ne_eqb kind 3 ne) s x p placed 0 idle, idle)
          go (no later) _ =
              let (here, none) = (found move).best won (λ met. later (met_is move met)) in
              (good_useful m (by_good move m here) (λ k less h. none k less (good move k h)), here.0)
