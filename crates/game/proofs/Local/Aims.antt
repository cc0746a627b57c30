-- What a table's moves and replies are aimed at is decidable, given that lower rows are decided in every state, and the checker can
-- compute it. Assumes nothing.
use mathlib.Core.Path.{◌≡◌}
use Prim.Native.Nat.{ℕ}
use Rattle.game.specs.Position.{Arena, Position, IsPosition, Reply, Allowed, outcome}
use Rattle.game.specs.Play.{Objective, next, always, until}
use Rattle.game.specs.Table.{Table, never, rank_at, Aim, Good, Met, Smallest, Failed, CounterAim, ReplyIs}
use Rattle.game.specs.Inner.Facts.{RowsDecided, Claims}
use Rattle.game.proofs.Numbers.Decide.{all_below, both?, eq?, implies?, lt?, not?}
use Rattle.game.proofs.Bridge.Proper.{Proper}
use Rattle.game.proofs.Bridge.Plays.{outcome_fits}
use Rattle.game.proofs.Local.Decidable.{allowed?, reply?, every?, claims?}

module _ (G : Arena) (proper : Proper G.structure) (X : Table) where
  abbrev pub met? : (t : Objective) (p : Position) → Dec (Met G X t p)
  met? (until left right) p = eq? (rank_at G X p) 0
  met? (always left) p = no (λ e. e)
  met? (next left) p = no (λ e. e)

  module _ (p : Position) (fits : IsPosition G p) where
    abbrev pub aim? : (t : Objective) → RowsDecided G t → (m r : ℕ) → Allowed G p m → Reply G p r → Dec (Aim G X t p (outcome G p m r))
    aim? (until left right) rows m r a reply = lt? (rank_at G X (outcome G p m r)) (rank_at G X p)
    aim? (always left) rows m r a reply = eq? (rank_at G X (outcome G p m r)) never
    aim? (next left) rows m r a reply = rows (outcome G p m r).state (outcome_fits G proper p m r fits a.0 reply).0

    abbrev pub good? : (t : Objective) → RowsDecided G t → (m : ℕ) → Dec (Good G X t p m)
    good? t rows m = both? (allowed? G p m) λ a. every? G p (Aim G X t p) m (λ r reply. aim? t rows m r a reply)

    abbrev pub failed? : (t : Objective) → RowsDecided G t → Dec (Failed G X t p)
    failed? (until left right) rows = both? (not? (rows.0 p.state fits.0)) (λ _. not? (rows.1 p.state fits.0))
    failed? (always left) rows = eq? (rank_at G X p) 0
    failed? (next left) rows = no (λ e. e)

    abbrev pub counter_aim? : (t : Objective) → RowsDecided G t → (m r : ℕ) → Allowed G p m → Reply G p r → Dec (CounterAim G X t (Claims G X t) p (outcome G p m r))
    counter_aim? (until left right) rows m r a reply = not? (claims? G X (until left right) (outcome G p m r))
    counter_aim? (always left) rows m r a reply = lt? (rank_at G X (outcome G p m r)) (rank_at G X p)
    counter_aim? (next left) rows m r a reply = not? (rows (outcome G p m r).state (outcome_fits G proper p m r fits a.0 reply).0)

    -- the reply to a move
    abbrev pub reply_is? : (t : Objective) → RowsDecided G t → (m : ℕ) → Allowed G p m → (r : ℕ) → Dec (ReplyIs G X t (Claims G X t) p m r)
    reply_is? t rows m a r =
        let Best : ℕ → Type 0 = λ k. Reply G p k × CounterAim G X t (Claims G X t) p (outcome G p m k) in
        let best? : (k : ℕ) → Dec (Best k) = λ k. both? (reply? G p k) (counter_aim? t rows m k a) in
        let tests : Dec ((Claims G X t p → r ≡ 0) × ((Failed G X t p → r ≡ 0) × ((Claims G X t p → ⊥) → (Failed G X t p → ⊥) → Smallest Best r))) =
        both? (implies? (claims? G X t p) (λ _. eq? r 0)) λ _.
        both? (implies? (failed? t rows) (λ _. eq? r 0)) λ _.
        implies? (not? (claims? G X t p)) (λ _. implies? (not? (failed? t rows)) (λ _. both? (best? r) (λ _. all_below (λ k. Best k → ⊥) r (λ k _. not? (best? k))))) in
        elim tests [
          | yes h ↦ yes record { won = h.0; failed = h.1.0; best = h.1.1 }
          | no fails ↦ no (λ at. fails (at.won, (at.failed, at.best)))
        ]
