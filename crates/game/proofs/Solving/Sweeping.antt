-- What a solver stands on that lowers ranks in place: lowering a rank to one more than its attack's worst outcome keeps Sound, and at
-- rest, where no rank can be lowered, the ranks are Stable. One law for until and always. Assumes nothing.
use mathlib.Core.Path.{◌≡◌, sym, ◌∙◌, ap, subst}
use Prim.Native.Nat.{ℕ, suc, ◌≤◌, ◌<◌}
use native.Mathlib.Omega.{arith}
use Rattle.game.specs.Position.{Arena, Position, IsPosition, number, positions, outcome}
use Rattle.game.specs.Table.{never}
use Rattle.game.specs.Inner.Facts.{CanForce, CanAnswer, Sound, Ranked}
use Rattle.game.specs.Inner.Sweep.{Crowded}
use Rattle.game.proofs.Numbers.Decide.{eq?, lt?}
use Rattle.game.proofs.Bridge.Proper.{Proper}
use Rattle.game.proofs.Bridge.Plays.{outcome_fits}
use Rattle.game.proofs.Local.Same.{Same, same_sym, same_trans, position_same, position_of, number_below}
use Rattle.game.proofs.Local.ByNumber.{By, Transfers}
use Rattle.game.proofs.Numbers.Counting.{crowded_below, lower_everywhere}

-- what a side can bring about, it can bring about of anything weaker
abbrev pub Weakens : Arena → (Position → (Position → Type 0) → Type 0) → Type 1
Weakens G Side = (p : Position) → IsPosition G p → (U W : Position → Type 0) → ((x : Position) → IsPosition G x → U x → W x) → Side p U → Side p W

module _ (G : Arena) (proper : Proper G.structure) where
  pub force_weakens : Weakens G (CanForce G)
  force_weakens p fits U W weaker (m, a, f) = (m, a, λ r reply. weaker (outcome G p m r) (outcome_fits G proper p m r fits a.0 reply) (f r reply))

  pub answer_weakens : Weakens G (CanAnswer G)
  answer_weakens p fits U W weaker f m a =
      let (r, reply, u) = f m a in
      (r, reply, weaker (outcome G p m r) (outcome_fits G proper p m r fits a.0 reply) u)

-- positions with one number are the same
pub same_by_number : (G : Arena) (p x : Position) → IsPosition G p → IsPosition G x → number G p ≡ number G x → Same G p x
same_by_number G p x fits fits' e =
    same_trans G p (position_of G (number G p)) x (position_same G p fits)
    (subst (λ (n : ℕ). Same G (position_of G n) x) (sym e) (same_sym G x (position_of G (number G x)) (position_same G x fits')))

module _ (G : Arena) (Safe Goal : ℕ → Type 0) where
  -- at first a rank is 0 at the goal and never elsewhere
  pub first_sound : (Attack : Position → (Position → Type 0) → Type 0) (rank : Position → ℕ)
      → ((p : Position) → IsPosition G p → Goal p.state → rank p ≡ 0) → ((p : Position) → IsPosition G p → (Goal p.state → ⊥) → rank p ≡ never)
      → ((p : Position) → IsPosition G p → Dec (Goal p.state)) → Sound G Safe Goal rank Attack
  first_sound Attack rank at_goal elsewhere goal? = record {
    bounded = λ p fits. go p fits (goal? p fits);
    reached = λ p fits e. reached p fits e (goal? p fits);
    goal = at_goal;
    safe = λ p fits positive finite. absurd (neither p fits positive finite (goal? p fits));
    attack = λ p fits positive finite. absurd (neither p fits positive finite (goal? p fits));
  }
    where
      go : (p : Position) → IsPosition G p → Dec (Goal p.state) → rank p ≤ never
      go p fits (yes g) = omega (arith, at_goal p fits g)
      go p fits (no ng) = omega (arith, elsewhere p fits ng)

      reached : (p : Position) → IsPosition G p → rank p ≡ 0 → Dec (Goal p.state) → Goal p.state
      reached p fits e (yes g) = g
      reached p fits e (no ng) = absurd (omega (arith, elsewhere p fits ng))

      neither : (p : Position) → IsPosition G p → 0 < rank p → rank p < never → Dec (Goal p.state) → ⊥
      neither p fits positive finite (yes g) = omega (arith, at_goal p fits g)
      neither p fits positive finite (no ng) = omega (arith, elsewhere p fits ng)

  module _ (Attack : Position → (Position → Type 0) → Type 0) (weakens : Weakens G Attack) (transfers : Transfers G Attack)
      (rank rank' : ℕ → ℕ) (p : Position) (fits : IsPosition G p) (others : (i : ℕ) → (i ≡ number G p → ⊥) → rank' i ≡ rank i)
      (positive : 0 < rank' (number G p)) (less : rank' (number G p) < rank (number G p))
      (safe : Safe p.state) (attack : Attack p (λ x. rank (number G x) < rank' (number G p))) where
    lowers : (i : ℕ) → rank' i ≤ rank i
    lowers = lower_everywhere (positions G) rank rank' (number G p) (number_below G p fits) others less

    -- the rank at p is lowered
    pub lower_sound : Sound G Safe Goal (λ x. rank (number G x)) Attack → Sound G Safe Goal (λ x. rank' (number G x)) Attack
    lower_sound sound = record {
      bounded = λ x inside. omega (arith, sound.bounded x inside, lowers (number G x));
      reached = λ x inside e. reached x inside e (eq? (number G x) (number G p));
      goal = λ x inside g. omega (arith, sound.goal x inside g, lowers (number G x));
      safe = λ x inside above finite. still_safe x inside above finite (eq? (number G x) (number G p));
      attack = λ x inside above finite. attacks x inside above finite (eq? (number G x) (number G p));
    }
      where
        at : (x : Position) → IsPosition G x → number G x ≡ number G p → Same G p x
        at x inside e = same_by_number G p x fits inside (sym e)

        reached : (x : Position) → IsPosition G x → rank' (number G x) ≡ 0 → Dec (number G x ≡ number G p) → Goal x.state
        reached x inside e (yes same) = absurd (omega (arith, ap rank' same))
        reached x inside e (no ne) = sound.reached x inside (sym (others (number G x) ne) ∙ e)

        still_safe : (x : Position) → IsPosition G x → 0 < rank' (number G x) → rank' (number G x) < never → Dec (number G x ≡ number G p) → Safe x.state
        still_safe x inside above finite (yes same) = subst Safe (at x inside same).0 safe
        still_safe x inside above finite (no ne) = sound.safe x inside (omega (arith, others (number G x) ne)) (omega (arith, others (number G x) ne))

        attacks : (x : Position) → IsPosition G x → 0 < rank' (number G x) → rank' (number G x) < never → Dec (number G x ≡ number G p) → Attack x (λ y. rank' (number G y) < rank' (number G x))
        attacks x inside above finite (yes same) =
            weakens x inside (By G (λ n _. rank n < rank' (number G p))) (λ y. rank' (number G y) < rank' (number G x))
            (λ y _ h. omega (arith, lowers (number G y), ap rank' same))
            (transfers (λ n _. rank n < rank' (number G p)) p x (at x inside same) attack)
        attacks x inside above finite (no ne) =
            weakens x inside (λ y. rank (number G y) < rank (number G x)) (λ y. rank' (number G y) < rank' (number G x))
            (λ y _ h. omega (arith, lowers (number G y), others (number G x) ne))
            (sound.attack x inside (omega (arith, others (number G x) ne)) (omega (arith, others (number G x) ne)))

  -- at rest no rank is more than one above what the defence can hold it to
  module _ (Attack Defend : Position → (Position → Type 0) → Type 0) (weakens : Weakens G Defend) (rank : ℕ → ℕ) (few : positions G < never)
      (crowded : Crowded (positions G) rank) (sound : Sound G Safe Goal (λ x. rank (number G x)) Attack) where
    pub at_rest : ((p : Position) → IsPosition G p → Safe p.state → 0 < rank (number G p) → Defend p (λ x. rank (number G p) ≤ suc (rank (number G x)))) → Ranked G Safe Goal (λ x. rank (number G x)) Attack Defend
    at_rest rests = record { sound = sound; stable = λ p fits safe positive. weakens p fits _ _ (λ x inside h. (h, λ e. high p x inside h e (lt? (rank (number G x)) never))) (rests p fits safe positive) }
      where
        high : (p x : Position) → IsPosition G x → rank (number G p) ≤ suc (rank (number G x)) → rank (number G p) ≡ never → Dec (rank (number G x) < never) → rank (number G x) ≡ never
        high p x inside h e (yes finite) = absurd (omega (arith, crowded_below (positions G) rank crowded (number G x) (number_below G x inside) finite))
        high p x inside h e (no above) = omega (arith, sound.bounded x inside)
