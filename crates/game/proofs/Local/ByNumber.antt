-- What can be forced or answered at a position, and a table's move there, go by the position's number. Assumes nothing.
use mathlib.Core.Path.{◌≡◌, sym, ◌∙◌, ap, subst, subst₂}
use Prim.Native.Nat.{ℕ, ◌<◌}
use Rattle.game.specs.Position.{Arena, Position, number, Reply, outcome}
use Rattle.game.specs.Play.{Objective, next, always, until}
use Rattle.game.specs.Table.{Table, never, rank_at, move_at, Good, Met, MoveIs}
use Rattle.game.specs.Inner.Facts.{CanForce, CanAnswer, Claims}
use Rattle.game.proofs.Local.Same.{Same, same_sym, same_number, same_allowed, same_reply, same_outcome}

module _ (G : Arena) where
  -- a property of positions that goes by number and state
  abbrev pub By : (ℕ → ℕ → Type 0) → Position → Type 0
  By Y x = Y (number G x) x.state

  same_by : (Y : ℕ → ℕ → Type 0) (p x : Position) → Same G p x → By Y p → By Y x
  same_by Y p x s = subst₂ Y (same_number G p x s) s.0

  -- a move's every outcome has a property; or some reply's has
  every : (Y : ℕ → ℕ → Type 0) (p x : Position) (m : ℕ) → Same G p x → ((r : ℕ) → Reply G p r → By Y (outcome G p m r)) → (r : ℕ) → Reply G x r → By Y (outcome G x m r)
  every Y p x m s f r reply = same_by Y (outcome G p m r) (outcome G x m r) (same_outcome G p x m r s) (f r (same_reply G x p r (same_sym G p x s) reply))

  -- what an attack or a defence does goes by number
  abbrev pub Transfers : (Position → (Position → Type 0) → Type 0) → Type 1
  Transfers Side = (Y : ℕ → ℕ → Type 0) (p x : Position) → Same G p x → Side p (By Y) → Side x (By Y)

  pub force_transfers : Transfers (CanForce G)
  force_transfers Y p x s (m, a, f) = (m, same_allowed G p x m s a, every Y p x m s f)

  pub answer_transfers : Transfers (CanAnswer G)
  answer_transfers Y p x s f m a =
      let (r, reply, y) = f m (same_allowed G x p m (same_sym G p x s) a) in
      (r, same_reply G p x r s reply, same_by Y (outcome G p m r) (outcome G x m r) (same_outcome G p x m r s) y)

  module _ (X : Table) where
    same_rank : (p x : Position) → Same G p x → rank_at G X p ≡ rank_at G X x
    same_rank p x s = ap X.rank (same_number G p x s)

    -- the table's move goes by number too
    good_same : (t : Objective) (p x : Position) (m : ℕ) → Same G p x → Good G X t p m → Good G X t x m
    good_same (until left right) p x m s (a, f) =
        (same_allowed G p x m s a, subst (λ (k : ℕ). (r : ℕ) → Reply G x r → rank_at G X (outcome G x m r) < k) (same_rank p x s) (every (λ n _. X.rank n < rank_at G X p) p x m s f))
    good_same (always left) p x m s (a, f) = (same_allowed G p x m s a, every (λ n _. X.rank n ≡ never) p x m s f)
    good_same (next left) p x m s (a, f) = (same_allowed G p x m s a, every (λ _ q. left q) p x m s f)

    claims_same : (t : Objective) (p x : Position) → Same G p x → Claims G X t p → Claims G X t x
    claims_same (until left right) p x s = subst (λ (k : ℕ). k < never) (same_rank p x s)
    claims_same (always left) p x s = λ e. sym (same_rank p x s) ∙ e
    claims_same (next left) p x s = λ e. sym (same_rank p x s) ∙ e

    met_same : (t : Objective) (p x : Position) → Same G p x → Met G X t p → Met G X t x
    met_same (until left right) p x s = λ e. sym (same_rank p x s) ∙ e
    met_same (always left) p x s = λ e. e
    met_same (next left) p x s = λ e. e

    pub move_same : (t : Objective) (p x : Position) → Same G p x → MoveIs G X t (Claims G X t) p (move_at G X p) → MoveIs G X t (Claims G X t) x (move_at G X x)
    move_same t p x s at = subst (MoveIs G X t (Claims G X t) x) (ap X.move (same_number G p x s)) record {
      lost = λ loses. at.lost (λ claim. loses (claims_same t p x s claim));
      met = λ claim met. at.met (claims_same t x p back claim) (met_same t x p back met);
      best = λ claim unmet.
          let (good, none) = at.best (claims_same t x p back claim) (λ met. unmet (met_same t p x s met)) in
          (good_same t p x (move_at G X p) s good, λ k l g. none k l (good_same t x p k back g));
    }
      where
        back : Same G x p
        back = same_sym G p x s
