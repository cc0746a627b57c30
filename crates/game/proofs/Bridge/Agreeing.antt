-- Truth depends on no more of a structure than its states, agents, resources and available actions: two structures that agree on these have
-- the same truths. Assumes nothing.
use mathlib.Core.Bool.{Bool, true, false, cond}
use mathlib.Core.Logic.{◌↔◌, inl, inr}
use mathlib.Core.Path.{◌≡◌, refl, sym, ◌∙◌, ap, ap₂, subst}
use Prim.Native.Nat.{ℕ, zero, suc, ◌+◌, ◌≤◌, ◌<◌}
use native.Mathlib.Omega.{arith}
use lib.Dec.{T}
use Rattle.game.specs.Rbatl.{Bounds, Coalition, Computation, remaining, Formula, prop, not, or, next, always, until, Joint, Strategy, Structure, Available, IsMove, Outcome, cost_up_to, move_cost, sum_up_to, move_charge, IsStrategy, Consistent, prefix, stock_after, full_stock, Can, Sat}
use Rattle.game.proofs.Bridge.Proper.{Proper}
use Rattle.game.proofs.Bridge.Plays.{moves, stays_inside}

pub record Agrees (S S' : Structure) : Type 0 where
  pub agents : S'.agents ≡ S.agents
  pub resources : S'.resources ≡ S.resources
  pub states : S'.states ≡ S.states
  pub holds : (p q : ℕ) → q < S.states → S'.holds p q ≡ S.holds p q
  pub actions : (q a : ℕ) → q < S.states → a < S.agents → S'.actions q a ≡ S.actions q a
  pub cost : (q a k r : ℕ) → q < S.states → a < S.agents → k < S.actions q a → r < S.resources → S'.cost q a k r ≡ S.cost q a k r
  pub charge : (q a k r : ℕ) → q < S.states → a < S.agents → k < S.actions q a → r < S.resources → S'.charge q a k r ≡ S.charge q a k r
  pub combine : (r x y : ℕ) → S'.combine r x y ≡ S.combine r x y
  pub next : (q : ℕ) (m : Joint) → q < S.states → Available S q m → S'.next q m ≡ S.next q m

module _ {S S' : Structure} (h : Agrees S S') where
  available_back : (q : ℕ) (m : Joint) → q < S.states → Available S' q m → Available S q m
  available_back q m l available a la = omega (arith, available a (omega (arith, h.agents)), h.actions q a l la)

  agrees_back : Agrees S' S
  agrees_back = record {
    agents = sym h.agents;
    resources = sym h.resources;
    states = sym h.states;
    holds = λ p q l. sym (h.holds p q (omega (arith, h.states)));
    actions = λ q a l la. sym (h.actions q a (omega (arith, h.states)) (omega (arith, h.agents)));
    cost = λ q a k r l la lk lr.
        let lq : q < S.states = omega (arith, h.states) in
        let lA : a < S.agents = omega (arith, h.agents) in
        sym (h.cost q a k r lq lA (omega (arith, h.actions q a lq lA)) (omega (arith, h.resources)));
    charge = λ q a k r l la lk lr.
        let lq : q < S.states = omega (arith, h.states) in
        let lA : a < S.agents = omega (arith, h.agents) in
        sym (h.charge q a k r lq lA (omega (arith, h.actions q a lq lA)) (omega (arith, h.resources)));
    combine = λ r x y. sym (h.combine r x y);
    next = λ q m l available.
        let lq : q < S.states = omega (arith, h.states) in
        sym (h.next q m lq (available_back q m lq available));
  }

  module _ (A : Coalition) where
    outcome_back : (q : ℕ) (σ : Joint) (q' : ℕ) → q < S.states → Outcome S' A q σ q' → Outcome S A q σ q'
    outcome_back q σ q' l (m, available, agree, e) =
        let here = available_back q m l available in
        (m, here, (λ a la t. agree a (omega (arith, h.agents)) t), sym (h.next q m l here) ∙ e)

    -- what a move costs, here up to the first n agents
    cost_same : (q : ℕ) (σ : Joint) (r : ℕ) → q < S.states → IsMove S A q σ → r < S.resources → (n : ℕ) → n ≤ S.agents → cost_up_to S' A n q σ r ≡ cost_up_to S A n q σ r
    cost_same q σ r l move lr zero few = refl
    cost_same q σ r l move lr (suc n) few = go (A n) (move n (omega arith)) (cost_same q σ r l move lr n (omega arith))
      where
        go : (t : Bool) → (T t → σ n < S.actions q n) → cost_up_to S' A n q σ r ≡ cost_up_to S A n q σ r
            → cond t (S'.combine r (cost_up_to S' A n q σ r) (S'.cost q n (σ n) r)) (cost_up_to S' A n q σ r) ≡ cond t (S.combine r (cost_up_to S A n q σ r) (S.cost q n (σ n) r)) (cost_up_to S A n q σ r)
        go true acts before = h.combine r _ _ ∙ ap₂ (S.combine r) before (h.cost q n (σ n) r l (omega arith) (acts tt) lr)
        go false acts before = before

    -- and what it gives
    charge_same : (q : ℕ) (σ : Joint) (r : ℕ) → q < S.states → IsMove S A q σ → r < S.resources → (n : ℕ) → n ≤ S.agents → sum_up_to S' A n (λ a. S'.charge q a (σ a) r) ≡ sum_up_to S A n (λ a. S.charge q a (σ a) r)
    charge_same q σ r l move lr zero few = refl
    charge_same q σ r l move lr (suc n) few = go (A n) (move n (omega arith)) (charge_same q σ r l move lr n (omega arith))
      where
        go : (t : Bool) → (T t → σ n < S.actions q n) → sum_up_to S' A n (λ a. S'.charge q a (σ a) r) ≡ sum_up_to S A n (λ a. S.charge q a (σ a) r)
            → sum_up_to S' A n (λ a. S'.charge q a (σ a) r) + cond t (S'.charge q n (σ n) r) 0 ≡ sum_up_to S A n (λ a. S.charge q a (σ a) r) + cond t (S.charge q n (σ n) r) 0
        go true acts before = omega (arith, h.charge q n (σ n) r l (omega arith) (acts tt) lr)
        go false acts before = omega arith

    module _ (proper' : Proper S') (F : Strategy) (strategy : IsStrategy S A F) where
      strategy_on : IsStrategy S' A F
      strategy_on q past l a la t =
          let lq : q < S.states = omega (arith, h.states) in
          let lA : a < S.agents = omega (arith, h.agents) in
          omega (arith, strategy q past lq a lA t, h.actions q a lq lA)

      module _ (λs : Computation) (starts : λs 0 < S.states) (consistent : Consistent S' A F λs) where
        inside : (i : ℕ) → λs i < S.states
        inside i = omega (arith, stays_inside S' proper' A F λs (omega (arith, h.states)) consistent i, h.states)

        consistent_back : Consistent S A F λs
        consistent_back i = outcome_back (λs i) (F (prefix λs i)) (λs (suc i)) (inside i) (consistent i)

        -- what its moves take and give, and what they leave
        module _ (r : ℕ) (lr : r < S.resources) where
          taken_same : (n : ℕ) → move_cost S' A (λs n) (F (prefix λs n)) r ≡ move_cost S A (λs n) (F (prefix λs n)) r
          taken_same n = ap (λ (k : ℕ). cost_up_to S' A k (λs n) (F (prefix λs n)) r) h.agents ∙ cost_same (λs n) (F (prefix λs n)) r (inside n) (moves S A F strategy λs n (inside n)) lr S.agents (omega arith)

          given_same : (n : ℕ) → move_charge S' A (λs n) (F (prefix λs n)) r ≡ move_charge S A (λs n) (F (prefix λs n)) r
          given_same n = ap (λ (k : ℕ). sum_up_to S' A k (λ a. S'.charge (λs n) a (F (prefix λs n) a) r)) h.agents ∙ charge_same (λs n) (F (prefix λs n)) r (inside n) (moves S A F strategy λs n (inside n)) lr S.agents (omega arith)

          stock_same : (b : Bounds) (start : ℕ → ℕ) (n : ℕ) → stock_after S' A b start F λs n r ≡ stock_after S A b start F λs n r
          stock_same b start zero = refl
          stock_same b start (suc n) =
              ap (λ (s : ℕ). remaining (b r) s (move_cost S' A (λs n) (F (prefix λs n)) r) (move_charge S' A (λs n) (F (prefix λs n)) r)) (stock_same b start n)
              ∙ ap₂ (remaining (b r) (stock_after S A b start F λs n r)) (taken_same n) (given_same n)

    can_on : Proper S' → (b : Bounds) (property property' : Computation → Type 0) (q : ℕ) → q < S.states
        → ((λs : Computation) → ((i : ℕ) → λs i < S.states) → property λs → property' λs) → Can S A b property q → Can S' A b property' q
    can_on proper' b property property' q l tells (F, strategy, within, met) = (
      F,
      strategy_on proper' F strategy,
      (λ λs starts consistent n r lr.
          let here : λs 0 < S.states = omega (arith, h.states) in
          let lR : r < S.resources = omega (arith, h.resources) in
          let paid = within λs here (consistent_back proper' F strategy λs here consistent) n r lR in
          let stock = stock_same proper' F strategy λs here consistent r lR b (λ j. full_stock (b j)) n in
          rw (stock, taken_same proper' F strategy λs here consistent r lR n, given_same proper' F strategy λs here consistent r lR n) paid),
      λ λs starts consistent.
          let here : λs 0 < S.states = subst (λ (x : ℕ). x < S.states) (sym starts) l in
          tells λs (inside proper' F strategy λs here consistent) (met λs starts (consistent_back proper' F strategy λs here consistent)),
    )

-- a formula that is true in one is true in the other
sat_on : (φ : Formula) {S S' : Structure} → Agrees S S' → Proper S → Proper S' → (q : ℕ) → q < S.states → Sat S φ q → Sat S' φ q
sat_on (prop p) h proper proper' q l = subst T (sym (h.holds p q l))
sat_on (not φ) h proper proper' q l = λ fails sat. fails (sat_on φ (agrees_back h) proper' proper q (omega (arith, h.states)) sat)
sat_on (or φ ψ) h proper proper' q l = elim [ inl sat ↦ inl (sat_on φ h proper proper' q l sat) | inr sat ↦ inr (sat_on ψ h proper proper' q l sat) ]
sat_on (next A b φ) h proper proper' q l =
    can_on h A proper' b _ _ q l (λ λs inside. sat_on φ h proper proper' (λs 1) (inside 1))
sat_on (always A b φ) h proper proper' q l =
    can_on h A proper' b _ _ q l (λ λs inside holds i. sat_on φ h proper proper' (λs i) (inside i) (holds i))
sat_on (until A b φ ψ) h proper proper' q l =
    can_on h A proper' b _ _ q l (λ λs inside (i, met, before). (i, sat_on ψ h proper proper' (λs i) (inside i) met, λ j lj. sat_on φ h proper proper' (λs j) (inside j) (before j lj)))

pub sat_same : {S S' : Structure} → Agrees S S' → Proper S → Proper S' → (φ : Formula) (q : ℕ) → q < S.states → Sat S φ q ↔ Sat S' φ q
sat_same h proper proper' φ q l = (sat_on φ h proper proper' q l, sat_on φ (agrees_back h) proper' proper q (omega (arith, h.states)))
