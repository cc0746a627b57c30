-- What a search for a move or a reply finds: where the ranks claim a position a good move exists, and elsewhere a reply to each move
-- that is aimed right, unless the row has failed already. Assumes nothing.
use mathlib.Core.Logic.{◌⊎◌, inl, inr}
use mathlib.Core.Path.{◌≡◌, refl}
use Prim.Native.Nat.{ℕ, zero, suc, ◌<◌}
use native.Mathlib.Omega.{arith}
use Rattle.game.specs.Position.{Arena, Position, IsPosition, Reply, Allowed, outcome}
use Rattle.game.specs.Play.{Objective, next, always, until}
use Rattle.game.specs.Table.{Table, never, rank_at, Good, Met, Failed, CounterAim, Smallest, ReplyIs}
use Rattle.game.specs.Inner.Facts.{CanForce, CanAnswer, RankFacts, RowsDecided, Claims, Facts}
use Rattle.game.proofs.Numbers.Decide.{both?}
use Rattle.game.proofs.Bridge.Proper.{Proper}
use Rattle.game.proofs.Numbers.Ranks.{below_suc}
use Rattle.game.proofs.Local.Decidable.{reply?, claims?}
use Rattle.game.proofs.Local.Aims.{failed?, counter_aim?}
use Rattle.game.proofs.Whole.Choices.{idle_reply}

-- of the numbers below n the first with a property
abbrev pub first_below : (P : ℕ → Type 0) → ((i : ℕ) → Dec (P i)) → (n : ℕ) → ((i : ℕ) × Smallest P i) ⊎ ((i : ℕ) → i < n → P i → ⊥)
first_below P P? zero = inr (λ i l. absurd (omega arith))
first_below P P? (suc n) =
    elim (first_below P P? n) [
      | inl found ↦ inl found
      | inr none ↦ elim (P? n) [ yes here ↦ inl (n, (here, none)) | no fails ↦ inr (below_suc {P = λ i. P i → ⊥} n none fails) ]
    ]

pub smallest : (P : ℕ → Type 0) → ((i : ℕ) → Dec (P i)) → (i : ℕ) → P i → (k : ℕ) × Smallest P k
smallest P P? i h = go (first_below P P? (suc i))
  where
    go : ((k : ℕ) × Smallest P k) ⊎ ((k : ℕ) → k < suc i → P k → ⊥) → (k : ℕ) × Smallest P k
    go (inl found) = found
    go (inr none) = absurd (none i (omega arith) h)

module _ (G : Arena) (X : Table) where
  pub good_exists : (t : Objective) → RankFacts G t (rank_at G X) → (p : Position) → IsPosition G p → Claims G X t p → (Met G X t p → ⊥) → (m : ℕ) × Good G X t p m
  good_exists (until left right) ranks p fits claim unmet =
      let (m, a, f) = ranks.sound.attack p fits (omega (arith, unmet)) claim in
      (m, (a, f))
  good_exists (always left) ranks p fits claim unmet =
      let (m, a, f) = ranks.stable p fits tt (omega arith) in
      (m, (a, λ r reply. (f r reply).1 claim))
  good_exists (next left) ranks p fits claim unmet = go (ranks p fits)
    where
      go : ((rank_at G X p ≡ 1) × CanForce G p (λ x. left x.state)) ⊎ ((rank_at G X p ≡ never) × CanAnswer G p (λ x. left x.state → ⊥)) → (m : ℕ) × Good G X (next left) p m
      go (inl (_, (m, a, f))) = (m, (a, f))
      go (inr (e, _)) = absurd (omega arith)

  pub counter_exists : (t : Objective) → RankFacts G t (rank_at G X) → RowsDecided G t → (p : Position) → IsPosition G p → (Claims G X t p → ⊥) → (Failed G X t p → ⊥) → CanAnswer G p (CounterAim G X t (Claims G X t) p)
  counter_exists (until left right) ranks rows p fits unclaimed unsettled = λ m a.
      let (r, reply, kept) = ranks.stable p fits (safe (rows.0 p.state fits.0)) (omega (arith, unclaimed)) m a in
      (r, reply, λ claim. omega (arith, kept.1 (omega (arith, unclaimed, ranks.sound.bounded p fits)), claim))
    where
      safe : Dec (left p.state) → left p.state
      safe (yes h) = h
      safe (no fails) = absurd (unsettled (fails, λ r. omega (arith, unclaimed, ranks.sound.goal p fits r)))
  counter_exists (always left) ranks rows p fits unclaimed unsettled =
      ranks.sound.attack p fits (omega (arith, unsettled)) (omega (arith, unclaimed, ranks.sound.bounded p fits))
  counter_exists (next left) ranks rows p fits unclaimed unsettled = go (ranks p fits)
    where
      go : ((rank_at G X p ≡ 1) × CanForce G p (λ x. left x.state)) ⊎ ((rank_at G X p ≡ never) × CanAnswer G p (λ x. left x.state → ⊥)) → CanAnswer G p (λ x. left x.state → ⊥)
      go (inl (e, _)) = absurd (unclaimed e)
      go (inr (_, can)) = can

  module _ (proper : Proper G.structure) (t : Objective) (facts : Facts G X t) where
    -- the smallest reply, where one is asked for
    pub reply_exists : (p : Position) → IsPosition G p → (m : ℕ) → Allowed G p m → (r : ℕ) × Reply G p r × ReplyIs G X t (Claims G X t) p m r
    reply_exists p fits m a = go (claims? G X t p) (failed? G proper X p fits t facts.decided)
      where
        Best : ℕ → Type 0
        Best k = Reply G p k × CounterAim G X t (Claims G X t) p (outcome G p m k)

        go : Dec (Claims G X t p) → Dec (Failed G X t p) → (r : ℕ) × Reply G p r × ReplyIs G X t (Claims G X t) p m r
        go (yes claim) d = (0, idle_reply G proper p fits, record { won = λ _. refl; failed = λ _. refl; best = λ loses. absurd (loses claim) })
        go (no unclaimed) (yes over) = (0, idle_reply G proper p fits, record { won = λ _. refl; failed = λ _. refl; best = λ _ unsettled. absurd (unsettled over) })
        go (no unclaimed) (no unsettled) =
            let (r, reply, aims) = counter_exists t facts.ranks facts.decided p fits unclaimed unsettled m a in
            let (k, least) = smallest Best (λ k. both? (reply? G p k) (counter_aim? G proper X p fits t facts.decided m k a)) r (reply, aims) in
            (k, least.0.0, record { won = λ claim. absurd (unclaimed claim); failed = λ over. absurd (unsettled over); best = λ _ _. least })
