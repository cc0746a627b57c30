-- Decided leaves no choice: two tables that are decided at every position show the same ranks and moves there, and have the same replies.
-- Assumes nothing.
use mathlib.Core.Logic.{◌⊎◌, inl, inr}
use mathlib.Core.Path.{◌≡◌, sym, ◌∙◌}
use Prim.Native.Nat.{ℕ, ◌<◌}
use native.Mathlib.Omega.{arith}
use Rattle.game.specs.Position.{Arena, Position, IsPosition, Reply, Allowed, outcome}
use Rattle.game.specs.Play.{Objective, next, always, until, CoalitionWins, OpponentsWin}
use Rattle.game.specs.Table.{Table, rank_at, move_at, Smallest, Fewest, RankIs, Aim, Good, Met, Failed, CounterAim, ReplyIs, Decided}
use Rattle.game.proofs.Numbers.Decide.{lt?}
use Rattle.game.proofs.Bridge.Proper.{Proper}
use Rattle.game.proofs.Bridge.Plays.{outcome_fits}
use Rattle.game.proofs.Local.Aims.{met?}

pub smallest_unique : (P Q : ℕ → Type 0) → ((k : ℕ) → P k → Q k) → ((k : ℕ) → Q k → P k) → (m n : ℕ) → Smallest P m → Smallest Q n → m ≡ n
smallest_unique P Q to from m n (p, p-first) (q, q-first) = go (lt? m n) (lt? n m)
  where
    go : Dec (m < n) → Dec (n < m) → m ≡ n
    go (yes l) _ = absurd (q-first m l (to m p))
    go (no _) (yes l) = absurd (p-first n l (from n q))
    go (no a) (no b) = omega arith

fewest_unique : (P : ℕ → Type 0) (m n : ℕ) → Fewest P m → Fewest P n → m ≡ n
fewest_unique P m n (inl (_, p)) (inl (_, q)) = smallest_unique P P (λ _ h. h) (λ _ h. h) m n p q
fewest_unique P m n (inl (_, p)) (inr (_, none)) = absurd (none m p.0)
fewest_unique P m n (inr (_, none)) (inl (_, q)) = absurd (none n q.0)
fewest_unique P m n (inr (e, _)) (inr (e', _)) = e ∙ sym e'

-- rank is determined by plays
pub rank_unique : (G : Arena) (t : Objective) (p : Position) (m n : ℕ) → RankIs G t p m → RankIs G t p n → m ≡ n
rank_unique G (until left right) p m n = fewest_unique _ m n
rank_unique G (always left) p m n = fewest_unique _ m n
rank_unique G (next left) p m n = λ r s. go r s
  where
    go : RankIs G (next left) p m → RankIs G (next left) p n → m ≡ n
    go (inl (e, _)) (inl (e', _)) = e ∙ sym e'
    go (inl (_, wins)) (inr (_, loses)) = absurd (loses wins)
    go (inr (_, loses)) (inl (_, wins)) = absurd (loses wins)
    go (inr (e, _)) (inr (e', _)) = e ∙ sym e'

-- tables with the same ranks have the same moves and replies
module _ (G : Arena) (proper : Proper G.structure) (X X' : Table) (same : (p : Position) → IsPosition G p → rank_at G X p ≡ rank_at G X' p) where
  good_agree : (t : Objective) (p : Position) → IsPosition G p → (m : ℕ) → Good G X t p m → Good G X' t p m
  good_agree t p fits m (a, f) = (a, λ r reply. aim t r reply (f r reply))
    where
      lands : (r : ℕ) → Reply G p r → IsPosition G (outcome G p m r)
      lands r reply = outcome_fits G proper p m r fits a.0 reply

      aim : (t : Objective) (r : ℕ) → Reply G p r → Aim G X t p (outcome G p m r) → Aim G X' t p (outcome G p m r)
      aim (until left right) r reply h = omega (arith, same p fits, same (outcome G p m r) (lands r reply), h)
      aim (always left) r reply h = sym (same (outcome G p m r) (lands r reply)) ∙ h
      aim (next left) r reply h = h

  met_agree : (t : Objective) (p : Position) → IsPosition G p → Met G X t p → Met G X' t p
  met_agree (until left right) p fits e = sym (same p fits) ∙ e
  met_agree (always left) p fits e = e
  met_agree (next left) p fits e = e

  pub failed_agree : (t : Objective) (p : Position) → IsPosition G p → Failed G X t p → Failed G X' t p
  failed_agree (until left right) p fits over = over
  failed_agree (always left) p fits e = sym (same p fits) ∙ e
  failed_agree (next left) p fits over = over

  pub counter_agree : (t : Objective) (Won : Position → Type 0) (p : Position) → IsPosition G p → (m : ℕ) → Allowed G p m → (r : ℕ) → Reply G p r → CounterAim G X t Won p (outcome G p m r) → CounterAim G X' t Won p (outcome G p m r)
  counter_agree (until left right) Won p fits m a r reply h = h
  counter_agree (always left) Won p fits m a r reply h = omega (arith, same p fits, same (outcome G p m r) (outcome_fits G proper p m r fits a.0 reply), h)
  counter_agree (next left) Won p fits m a r reply h = h

module _ (G : Arena) (proper : Proper G.structure) (t : Objective) (X X' : Table) (decided : (p : Position) → IsPosition G p → Decided G X t p) (decided' : (p : Position) → IsPosition G p → Decided G X' t p) where
  pub ranks_agree : (p : Position) → IsPosition G p → rank_at G X p ≡ rank_at G X' p
  ranks_agree p fits = rank_unique G t p (rank_at G X p) (rank_at G X' p) (decided p fits).rank_is (decided' p fits).rank_is

  ranks_agree' : (p : Position) → IsPosition G p → rank_at G X' p ≡ rank_at G X p
  ranks_agree' p fits = sym (ranks_agree p fits)

  -- the side that loses at p
  loses : (p : Position) → IsPosition G p → OpponentsWin G t p → CoalitionWins G t p → ⊥
  loses p fits others wins = (decided p fits).not_both wins others

  pub moves_agree : (p : Position) → IsPosition G p → move_at G X p ≡ move_at G X' p
  moves_agree p fits = go (decided p fits).one_side (met? G proper X t p)
    where
      go : CoalitionWins G t p ⊎ OpponentsWin G t p → Dec (Met G X t p) → move_at G X p ≡ move_at G X' p
      go (inr others) _ = (decided p fits).move_is.lost (loses p fits others) ∙ sym ((decided' p fits).move_is.lost (loses p fits others))
      go (inl wins) (yes met) = (decided p fits).move_is.met wins met ∙ sym ((decided' p fits).move_is.met wins (met_agree G proper X X' ranks_agree t p fits met))
      go (inl wins) (no unmet) =
          smallest_unique (Good G X t p) (Good G X' t p) (good_agree G proper X X' ranks_agree t p fits) (good_agree G proper X' X ranks_agree' t p fits) (move_at G X p) (move_at G X' p)
          ((decided p fits).move_is.best wins unmet) ((decided' p fits).move_is.best wins (λ met. unmet (met_agree G proper X' X ranks_agree' t p fits met)))

  pub replies_agree : (p : Position) → IsPosition G p → Dec (Failed G X t p) → (m : ℕ) → Allowed G p m → (r r' : ℕ) → ReplyIs G X t (CoalitionWins G t) p m r → ReplyIs G X' t (CoalitionWins G t) p m r' → r ≡ r'
  replies_agree p fits failed? m a r r' is is' = go (decided p fits).one_side failed?
    where
      go : CoalitionWins G t p ⊎ OpponentsWin G t p → Dec (Failed G X t p) → r ≡ r'
      go (inl wins) _ = is.won wins ∙ sym (is'.won wins)
      go (inr others) (yes over) = is.failed over ∙ sym (is'.failed (failed_agree G proper X X' ranks_agree t p fits over))
      go (inr others) (no unsettled) =
          smallest_unique (λ k. Reply G p k × CounterAim G X t (CoalitionWins G t) p (outcome G p m k)) (λ k. Reply G p k × CounterAim G X' t (CoalitionWins G t) p (outcome G p m k))
          (λ k (reply, h). (reply, counter_agree G proper X X' ranks_agree t (CoalitionWins G t) p fits m a k reply h))
          (λ k (reply, h). (reply, counter_agree G proper X' X ranks_agree' t (CoalitionWins G t) p fits m a k reply h))
          r r' (is.best (loses p fits others) unsettled) (is'.best (loses p fits others) (λ over. unsettled (failed_agree G proper X' X ranks_agree' t p fits over)))
