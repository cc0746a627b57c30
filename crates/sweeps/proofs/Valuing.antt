-- Values gathered over all moves of a state are the values of its positions: the attack comes so far, and the defence holds it there.
-- Assumes nothing.
use mathlib.Core.Bool.{Bool, true, false, not}
use mathlib.Core.Logic.{◌⊎◌, inl, inr, ⊎_elim}
use mathlib.Core.Path.{◌≡◌, refl, sym, ◌∙◌, ap, subst}
use Prim.Native.Nat.{ℕ, zero, suc, ◌+◌, ◌^◌, ◌≤◌, ◌<◌}
use native.Mathlib.Nat.{pow-le-pow_right}
use native.Mathlib.Omega.{arith}
use Rattle.game.specs.Position.{Arena, Position, IsPosition, number, Reply, Allowed, outcome}
use Rattle.game.specs.Inner.Facts.{CanForce}
use Rattle.ways.specs.Extremes.{Beyond, Further, Worst}
use Rattle.game.proofs.Numbers.Decide.{eq?}
use Rattle.ways.proofs.Largest.{beyond_equal, beyond_trans, further_some}
use Rattle.game.proofs.Bridge.Proper.{Proper}
use Rattle.game.proofs.Bridge.Plays.{outcome_fits}
use Rattle.game.proofs.Local.Decidable.{reply?}
use Rattle.game.proofs.Local.ByNumber.{force_transfers}
use Rattle.game.proofs.Local.Same.{Same}
use Rattle.game.proofs.Solving.Sweeping.{same_by_number}
use Rattle.game.proofs.Whole.Choices.{idle_allowed, idle_reply}
use Rattle.ways.specs.Places.{PlacedAt}
use Rattle.sweeps.specs.Values.{MoveOffers, OneOf, Final, Valued}
use Rattle.ways.proofs.Placing.{placed_number}

-- a move has a worst rank
module _ (G : Arena) (proper : Proper G.structure) (most : Bool) (rank : ℕ → ℕ) (p : Position) (fits : IsPosition G p) (m : ℕ) where
  abbrev rank_of : ℕ → ℕ
  rank_of r = rank (number G (outcome G p m r))

  -- the worst over the replies below n
  record WorstBelow (n v : ℕ) : Type 0 where
    each : (r : ℕ) → r < n → Reply G p r → Beyond most (rank_of r) v
    some : (r : ℕ) × Reply G p r × (rank_of r ≡ v)

  none_or_worst : (n : ℕ) → ((r : ℕ) → r < n → Reply G p r → ⊥) ⊎ ((v : ℕ) × WorstBelow n v)
  none_or_worst zero = inl (λ r l. absurd (omega arith))
  none_or_worst (suc n) = go (none_or_worst n) (reply? G p n)
    where
      go : ((r : ℕ) → r < n → Reply G p r → ⊥) ⊎ ((v : ℕ) × WorstBelow n v) → Dec (Reply G p n) → ((r : ℕ) → r < suc n → Reply G p r → ⊥) ⊎ ((v : ℕ) × WorstBelow (suc n) v)
      go (inl none) (no fails) = inl (λ r l reply. missing r l reply (eq? r n))
        where
          missing : (r : ℕ) → r < suc n → Reply G p r → Dec (r ≡ n) → ⊥
          missing r l reply (yes e) = fails (subst (Reply G p) e reply)
          missing r l reply (no ne) = none r (omega arith) reply
      go (inl none) (yes reply) = inr (rank_of n, record { each = λ r l reply'. only r l reply' (eq? r n); some = (n, reply, refl) })
        where
          only : (r : ℕ) → r < suc n → Reply G p r → Dec (r ≡ n) → Beyond most (rank_of r) (rank_of n)
          only r l reply' (yes e) = beyond_equal most (rank_of r) (rank_of n) (ap rank_of e)
          only r l reply' (no ne) = absurd (none r (omega arith) reply')
      go (inr (v, worst)) (no fails) = inr (v, record { each = λ r l reply. each r l reply (eq? r n); some = worst.some })
        where
          each : (r : ℕ) → r < suc n → Reply G p r → Dec (r ≡ n) → Beyond most (rank_of r) v
          each r l reply (yes e) = absurd (fails (subst (Reply G p) e reply))
          each r l reply (no ne) = worst.each r (omega arith) reply
      go (inr (v, worst)) (yes reply) =
          let (w, step) = further_some most (rank_of n) v in
          inr (w, record { each = λ r l reply'. each w step r l reply' (eq? r n); some = ⊎_elim (λ e. (n, reply, sym e)) (λ e. let (r, reply', e') = worst.some in (r, reply', e' ∙ sym e)) step.taken })
        where
          each : (w : ℕ) → Further most (rank_of n) v w → (r : ℕ) → r < suc n → Reply G p r → Dec (r ≡ n) → Beyond most (rank_of r) w
          each w step r l reply' (yes e) = subst (λ (x : ℕ). Beyond most (rank_of x) w) (sym e) step.first
          each w step r l reply' (no ne) = beyond_trans most (rank_of r) v w (worst.each r (omega arith) reply') step.second

  pub worst_exists : (v : ℕ) × Worst G most rank p m v
  worst_exists = go (none_or_worst (4 ^ G.structure.agents))
    where
      go : ((r : ℕ) → r < 4 ^ G.structure.agents → Reply G p r → ⊥) ⊎ ((v : ℕ) × WorstBelow (4 ^ G.structure.agents) v) → (v : ℕ) × Worst G most rank p m v
      go (inl none) = let idle = idle_reply G proper p fits in absurd (none 0 idle.0 idle)
      go (inr (v, worst)) = (v, record { each = λ r reply. worst.each r reply.0 reply; some = worst.some })

module _ (G : Arena) (proper : Proper G.structure) (rank : ℕ → ℕ) (s x : ℕ) where
  -- positions at one place are the same
  placed_same : (p y : Position) → PlacedAt G s x p → PlacedAt G s x y → Same G y p
  placed_same p y at at' =
      same_by_number G y p at'.fits at.fits
      (sym (placed_number G s x y at') ∙ placed_number G s x p at)

  module _ (p : Position) (placed : PlacedAt G s x p) (v : ℕ) where
    pub move_small : (m : ℕ) → G.structure.agents ≤ 3 → Allowed G p m → m < 64
    move_small m few a = omega (arith, a.0.0, pow-le-pow_right {n = 4} (omega arith) few)

    abbrev Offers : Bool → ℕ → Type 0
    Offers most = OneOf 64 (MoveOffers G most rank s x)

    -- until: the smallest over the moves of the largest over the replies
    until_valued : (first : ℕ) → rank (number G p) ≤ first + 1 → ((w : ℕ) → Offers true w → v ≤ w) → (v ≡ first) ⊎ Offers true v → Valued G true rank p v
    until_valued first start best some = record {
      attack = λ less. ⊎_elim (λ e. absurd (omega arith)) attack some;
      defend = λ m a.
          let (w, worst) = worst_exists G proper true rank p placed.fits m in
          let (r, reply, e) = worst.some in
          (r, reply, omega (arith, best w (m, move_small m proper.few_agents a, (p, placed, a, worst))));
      met = λ less. ⊎_elim (λ e. absurd (omega arith)) met some;
    }
      where
        attack : Offers true v → CanForce G p (λ y. rank (number G y) ≤ v)
        attack (m, l, (y, placed', a, worst)) = force_transfers G (λ n _. rank n ≤ v) y p (placed_same p y placed placed') (m, a, worst.each)

        met : Offers true v → (y : Position) × IsPosition G y × (rank (number G y) ≡ v)
        met (m, l, (y, placed', a, worst)) = let (r, reply, e) = worst.some in (outcome G y m r, outcome_fits G proper y m r placed'.fits a.0 reply, e)

    -- always: the largest over the moves of the smallest over the replies
    always_valued : (v + 1 < rank (number G p) → (w : ℕ) → Offers false w → w ≤ v) → (v ≡ 0) ⊎ Offers false v → Valued G false rank p v
    always_valued best some = record {
      attack = λ less m a.
          let (w, worst) = worst_exists G proper false rank p placed.fits m in
          let (r, reply, e) = worst.some in
          (r, reply, omega (arith, best less w (m, move_small m proper.few_agents a, (p, placed, a, worst))));
      defend = ⊎_elim (λ e. (0, idle_allowed G proper p placed.fits, λ r reply. omega arith)) defend some;
      met = λ less. ⊎_elim (idle less) met some;
    }
      where
        defend : Offers false v → CanForce G p (λ y. v ≤ rank (number G y))
        defend (m, l, (y, placed', a, worst)) = force_transfers G (λ n _. v ≤ rank n) y p (placed_same p y placed placed') (m, a, worst.each)

        met : Offers false v → (y : Position) × IsPosition G y × (rank (number G y) ≡ v)
        met (m, l, (y, placed', a, worst)) = let (r, reply, e) = worst.some in (outcome G y m r, outcome_fits G proper y m r placed'.fits a.0 reply, e)

        idle : v + 1 < rank (number G p) → v ≡ 0 → (y : Position) × IsPosition G y × (rank (number G y) ≡ v)
        idle less e =
            let a = idle_allowed G proper p placed.fits in
            let (w, worst) = worst_exists G proper false rank p placed.fits 0 in
            let (r, reply, e') = worst.some in
            (outcome G p 0 r, outcome_fits G proper p 0 r placed.fits a.0 reply, omega (arith, e', best less w (0, omega arith, (p, placed, a, worst))))

    -- what is gathered over all moves, or over so many that no other changes anything
    pub gathered_valued : (most : Bool) (first : ℕ) → (most ≡ true → first + 1 ≡ rank (number G p)) → (most ≡ false → first ≡ 0) → (v ≡ first) ⊎ Offers most v
        → Final most (rank (number G p)) v ⊎ ((w : ℕ) → Offers most w → Beyond (not most) w v) → Valued G most rank p v
    gathered_valued true first start _ some done = until_valued first (omega (arith, start refl)) (λ w offer. ⊎_elim (λ (e : v ≡ 0). omega arith) (λ best. best w offer) done) some
    gathered_valued false first _ start some done = always_valued (λ less w offer. ⊎_elim (λ (h : rank (number G p) ≤ v + 1). absurd (omega arith)) (λ best. best w offer) done) (⊎_elim (λ e. inl (e ∙ start refl)) inr some)
