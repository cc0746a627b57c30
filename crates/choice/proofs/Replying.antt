-- The opponents' reply: where the listed replies lead, and from the first that counters to the reply of the table. Assumes nothing.
use mathlib.Core.List.{List}
use mathlib.Core.Path.{◌≡◌, refl, sym, ◌∙◌, ap, subst, transport}
use Prim.Native.Nat.{ℕ, ◌+◌, ◌*◌}
use Rattle.std.specs.Prelude.{Option, None, Some}
use Rattle.block.specs.Layout as L
use Rattle.block.specs.Layout.{Block}
use Rattle.block.specs.Inner.Valid.{Valid}
use Rattle.game.specs.Position.{Arena, Position, IsPosition, MoveOf, number, Reply, Allowed, outcome}
use Rattle.game.specs.Play.{Objective}
use Rattle.game.specs.Table.{Table, Failed, CounterAim, Smallest}
use Rattle.game.specs.Inner.Facts.{Claims}
use Rattle.game.specs.Model.{structure_of, coalition_of, arena_of}
use Rattle.game.specs.Inner.Words.{objective_by}
use Rattle.game.proofs.Local.Exist.{counter_exists}
use Rattle.turns.specs.Buffers.{rank_in}
use Rattle.choice.specs.Tables.{table_with, RanksOf, ReplyFor}
use Rattle.turns.specs.Inner.Rules.{ReplyTo}
use Rattle.ways.specs.Landing.{Leaves, Lands, Made}
use Rattle.ways.specs.Rows.{Playable}
use Rattle.ways.specs.declared.rows.Row.{Row}
use Rattle.ways.proofs.Leading.{reply_leads}
use Rattle.choice.specs.Choices.{CountersBy, Makes}
use Rattle.rankings.specs.Kinds.{ClaimsBy, CounterBy, FailedBy}
use Rattle.rankings.proofs.ByKind.{claims_by, failed_by, counter_by, words_decided}
use Rattle.choice.proofs.Moving.{outcome_next}

-- a listed move where it lands
pub way_makes : (b : Block) (row : Row) (s x m : ℕ) (r : Option ℕ) → MoveOf (structure_of b) (coalition_of b row.index) s m → Lands (arena_of b row.index) s x m r → Makes b row s x m r
way_makes b row s x m (Some y) move lands = (move, lands)
way_makes b row s x m None move lands = λ p placed useful allowed. lands p placed allowed.1

module _ (b : Block) (valid : Valid b) (row : Row) (playable : Playable b row) (ranks : List ℕ) (kind own s m y : ℕ) (made : Made b row s m y)
    (p : Position) (is_state : p.state ≡ s) (leaves : Leaves (arena_of b row.index) p m y) where
  abbrev G : Arena
  G = arena_of b row.index

  -- the state and the rank where a listed reply leads are those of its outcome
  module _ (r : ℕ) (reply : ReplyTo b row.index s r) where
    here : Reply G p r
    here = subst (λ (q : ℕ). ReplyTo b row.index q r) (sym is_state) reply

    same_counter : CounterBy kind row.set own (L.next b s (m + r)) (rank_in ranks (L.next b s (m + r) * row.places + y)) ≡ CounterBy kind row.set own (outcome G p m r).state (rank_in ranks (number G (outcome G p m r)))
    same_counter =
        ap (λ (q : ℕ). CounterBy kind row.set own q (rank_in ranks (L.next b s (m + r) * row.places + y)))
        (sym (outcome_next b valid row s m p is_state (subst (λ (q : ℕ). MoveOf (structure_of b) (coalition_of b row.index) q m) (sym is_state) made.1) r here))
        ∙ ap (λ (n : ℕ). CounterBy kind row.set own (outcome G p m r).state (rank_in ranks n)) (sym (reply_leads b valid row playable s m y made p is_state leaves r reply))

    pub counters_here : CounterBy kind row.set own (L.next b s (m + r)) (rank_in ranks (L.next b s (m + r) * row.places + y)) → CountersBy b row ranks kind own p m r
    counters_here aim = (here, transport same_counter aim)

    pub here_counters : CountersBy b row ranks kind own p m r → CounterBy kind row.set own (L.next b s (m + r)) (rank_in ranks (L.next b s (m + r) * row.places + y))
    here_counters counter = transport (sym same_counter) counter.1

  module _ (fits : IsPosition G p) (kind_is : kind ≡ L.kind b row.index) (own_is : rank_in ranks (number G p) ≡ own) (right : ℕ) (ranked : RanksOf b row.index row.set right ranks)
      (unclaimed : ClaimsBy (L.kind b row.index) own → ⊥) (allowed : Allowed G p m) where
    abbrev told : Objective
    told = objective_by (L.kind b row.index) row.set right

    module _ (move : ℕ → ℕ) where
      abbrev X : Table
      X = table_with ranks move

      told_unclaimed : Claims G X told p → ⊥
      told_unclaimed claim = unclaimed (subst (ClaimsBy (L.kind b row.index)) own_is (transport (sym (claims_by G X (L.kind b row.index) row.set right p)) claim))

      fails : FailedBy kind row.set right own s ≡ Failed G X told p
      fails =
          ap (λ (k : ℕ). FailedBy k row.set right own s) kind_is
          ∙ ap (λ (q : ℕ). FailedBy (L.kind b row.index) row.set right own q) (sym is_state)
          ∙ ap (λ (x : ℕ). FailedBy (L.kind b row.index) row.set right x p.state) (sym own_is)
          ∙ failed_by G X (L.kind b row.index) row.set right p

      aims : (r : ℕ) → CounterBy kind row.set own (outcome G p m r).state (rank_in ranks (number G (outcome G p m r))) ≡ CounterAim G X told (Claims G X told) p (outcome G p m r)
      aims r =
          ap (λ (k : ℕ). CounterBy k row.set own (outcome G p m r).state (rank_in ranks (number G (outcome G p m r)))) kind_is
          ∙ ap (λ (x : ℕ). CounterBy (L.kind b row.index) row.set x (outcome G p m r).state (rank_in ranks (number G (outcome G p m r)))) (sym own_is)
          ∙ counter_by G X (L.kind b row.index) row.set right p (outcome G p m r)

    pub reply_failed : FailedBy kind row.set right own s → ReplyFor b row.index row.set right ranks p m 0
    reply_failed over move = record { won = λ _. refl; failed = λ _. refl; best = λ _ unfailed. absurd (unfailed (transport (fails move) over)) }

    -- there is a reply that counters, so that the search finds the smallest
    pub reply_found : (FailedBy kind row.set right own s → ⊥) → (r : ℕ) → ((k : ℕ) → CountersBy b row ranks kind own p m k → Smallest (CountersBy b row ranks kind own p m) r) → ReplyFor b row.index row.set right ranks p m r
    reply_found unfailed r first move =
        let not-failed : Failed G (X move) told p → ⊥ = λ over. unfailed (transport (sym (fails move)) over) in
        let (k, reply, aim) = counter_exists G (X move) told ranked.facts (words_decided G (L.kind b row.index) row.set right) p fits (told_unclaimed move) not-failed m allowed in
        let (found, none) = first k (reply, transport (sym (aims move k)) aim) in
        record {
          won = λ claim. absurd (told_unclaimed move claim);
          failed = λ over. absurd (not-failed over);
          best = λ _ _. ((found.0, transport (aims move r) found.1), λ j less (reply, aim). none j less (reply, transport (sym (aims move j)) aim));
        }
