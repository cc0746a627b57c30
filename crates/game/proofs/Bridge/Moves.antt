-- Moves and replies as numbers, against the joint actions of document 003. Assumes nothing.
use mathlib.Core.Bool.{Bool, true, false, cond, not}
use mathlib.Core.Path.{◌≡◌, refl, sym, ◌∙◌, ap}
use Prim.Native.Nat.{ℕ, zero, suc, ◌+◌, ◌^◌, ◌≤◌, ◌<◌}
use native.Mathlib.Nat.{zero-div}
use native.Mathlib.Omega.{arith}
use lib.Dec.{T}
use Rattle.block.specs.Layout.{digit}
use Rattle.game.specs.Rbatl.{Joint, Coalition, Structure, Available, IsMove, Agree, cost_up_to, move_cost, sum_up_to, move_charge}
use Rattle.game.specs.Position.{joint, opponents, MoveOf, part}
use Rattle.game.proofs.Numbers.Joint.{joint_cong, joint_below, joint_digit, digit_joint, joint_parts}
use Rattle.game.proofs.Bridge.Proper.{Proper}

digit_small : (m a : ℕ) → digit m a < 4
digit_small m a = omega arith

digit_idle : (a : ℕ) → digit 0 a ≡ 0
digit_idle a = rw zero-div

-- what a move and a reply have for each agent
abbrev pub merge : Coalition → ℕ → ℕ → Joint
merge A m r a = cond (A a) (digit m a) (digit r a)

pub merge_small : (A : Coalition) (m r a : ℕ) → merge A m r a < 4
merge_small A m r a = go (A a)
  where
    go : (t : Bool) → cond t (digit m a) (digit r a) < 4
    go true = digit_small m a
    go false = digit_small r a

part_small : (n : ℕ) (A : Coalition) (σ : Joint) → ((a : ℕ) → a < n → T (A a) → σ a < 4) → (a : ℕ) → a < n → part A σ a < 4
part_small n A σ h a l = go (A a) (h a l)
  where
    go : (t : Bool) → (T t → σ a < 4) → cond t (σ a) 0 < 4
    go true g = g tt
    go false g = omega arith

module _ (S : Structure) (proper : Proper S) where
  -- action 0 for each agent
  pub idle_move : (A : Coalition) (q : ℕ) → q < S.states → MoveOf S A q 0
  idle_move A q l = (small, λ a h. go (A a) (proper.acts q a l h))
    where
      small : 0 < 4 ^ S.agents
      small = omega (arith, joint_below S.agents (λ _. 0) (λ _ _. omega arith))

      go : {a : ℕ} (t : Bool) → (1 ≤ S.actions q a) × (S.actions q a ≤ 4) → cond t (digit 0 a < S.actions q a) (digit 0 a ≡ 0)
      go {a} true h = omega (arith, digit_idle a)
      go {a} false h = digit_idle a

  pub idle_costs_nothing : (A : Coalition) (q r : ℕ) → q < S.states → r < S.resources → (n : ℕ) → n ≤ S.agents → cost_up_to S A n q (digit 0) r ≡ 0
  idle_costs_nothing A q r l lr zero h = refl
  idle_costs_nothing A q r l lr (suc n) h = go (A n) (idle_costs_nothing A q r l lr n (omega arith))
    where
      free : S.cost q n (digit 0 n) r ≡ 0
      free = rw (digit_idle n) (proper.idle_free q n r l (omega arith) lr)

      go : (t : Bool) → cost_up_to S A n q (digit 0) r ≡ 0 → cond t (S.combine r (cost_up_to S A n q (digit 0) r) (S.cost q n (digit 0 n) r)) (cost_up_to S A n q (digit 0) r) ≡ 0
      go true before = rw (before, free) (proper.nothing_combined r)
      go false before = before

  pub cost_cong : (A : Coalition) (q r : ℕ) (σ τ : Joint) (n : ℕ) → ((a : ℕ) → a < n → T (A a) → σ a ≡ τ a) → cost_up_to S A n q σ r ≡ cost_up_to S A n q τ r
  cost_cong A q r σ τ zero e = refl
  cost_cong A q r σ τ (suc n) e = go (A n) (e n (omega arith)) (cost_cong A q r σ τ n (λ a l. e a (omega arith)))
    where
      go : (t : Bool) → (T t → σ n ≡ τ n) → cost_up_to S A n q σ r ≡ cost_up_to S A n q τ r →
          cond t (S.combine r (cost_up_to S A n q σ r) (S.cost q n (σ n) r)) (cost_up_to S A n q σ r) ≡ cond t (S.combine r (cost_up_to S A n q τ r) (S.cost q n (τ n) r)) (cost_up_to S A n q τ r)
      go true g before = rw (before, g tt) refl
      go false g before = before

  pub sum_cong : (A : Coalition) (f g : ℕ → ℕ) (n : ℕ) → ((a : ℕ) → a < n → T (A a) → f a ≡ g a) → sum_up_to S A n f ≡ sum_up_to S A n g
  sum_cong A f g zero e = refl
  sum_cong A f g (suc n) e = go (A n) (e n (omega arith)) (sum_cong A f g n (λ a l. e a (omega arith)))
    where
      go : (t : Bool) → (T t → f n ≡ g n) → sum_up_to S A n f ≡ sum_up_to S A n g → sum_up_to S A n f + cond t (f n) 0 ≡ sum_up_to S A n g + cond t (g n) 0
      go true h before = omega (arith, h tt)
      go false h before = omega arith

  pub sum_nothing : (A : Coalition) (f : ℕ → ℕ) (n : ℕ) → ((a : ℕ) → a < n → T (A a) → f a ≡ 0) → sum_up_to S A n f ≡ 0
  sum_nothing A f zero e = refl
  sum_nothing A f (suc n) e = go (A n) (e n (omega arith)) (sum_nothing A f n (λ a l. e a (omega arith)))
    where
      go : (t : Bool) → (T t → f n ≡ 0) → sum_up_to S A n f ≡ 0 → sum_up_to S A n f + cond t (f n) 0 ≡ 0
      go true h before = omega (arith, h tt)
      go false h before = omega arith

  module _ (A : Coalition) (q : ℕ) where
    -- a move and a reply are the number of one joint action
    module _ (m r : ℕ) (move : MoveOf S A q m) (reply : MoveOf S (opponents A) q r) where
      pub together : m + r ≡ joint S.agents (merge A m r)
      together =
          let n = S.agents in
          let mine : joint n (part A (merge A m r)) ≡ m =
          joint_cong n (part A (merge A m r)) (digit m) (λ a l. first a (A a) (move.1 a l)) ∙ joint_digit n m move.0 in
          let others : joint n (part (opponents A) (merge A m r)) ≡ r =
          joint_cong n (part (opponents A) (merge A m r)) (digit r) (λ a l. second a (A a) (reply.1 a l)) ∙ joint_digit n r reply.0 in
          omega (arith, joint_parts n A (merge A m r))
        where
          first : (a : ℕ) (t : Bool) → cond t (digit m a < S.actions q a) (digit m a ≡ 0) → cond t (cond t (digit m a) (digit r a)) 0 ≡ digit m a
          first a true h = refl
          first a false h = sym h

          second : (a : ℕ) (t : Bool) → cond (not t) (digit r a < S.actions q a) (digit r a ≡ 0) → cond (not t) (cond t (digit m a) (digit r a)) 0 ≡ digit r a
          second a true h = sym h
          second a false h = refl

      pub together_digit : (a : ℕ) → a < S.agents → digit (m + r) a ≡ merge A m r a
      together_digit a l = ap (λ (k : ℕ). digit k a) together ∙ digit_joint S.agents (merge A m r) (λ c _. merge_small A m r c) a l

      pub together_available : Available S q (digit (m + r))
      together_available a l = rw (together_digit a l) (go (A a) (move.1 a l) (reply.1 a l))
        where
          go : (t : Bool) → cond t (digit m a < S.actions q a) (digit m a ≡ 0) → cond (not t) (digit r a < S.actions q a) (digit r a ≡ 0) → cond t (digit m a) (digit r a) < S.actions q a
          go true h h' = h
          go false h h' = h'

    -- the number of a move of document 003
    module _ (inside : q < S.states) (σ : Joint) (move : IsMove S A q σ) where
      pub number_digit : (a : ℕ) → a < S.agents → digit (joint S.agents (part A σ)) a ≡ part A σ a
      number_digit = digit_joint S.agents (part A σ) (part_small S.agents A σ (λ a l t. omega (arith, move a l t, proper.acts q a inside l)))

      pub number_move : MoveOf S A q (joint S.agents (part A σ))
      number_move = (
        joint_below S.agents (part A σ) (part_small S.agents A σ (λ a l t. omega (arith, move a l t, proper.acts q a inside l))),
        λ a l. go a (A a) (move a l) (number_digit a l),
      )
        where
          go : (a : ℕ) (t : Bool) → (T t → σ a < S.actions q a) → digit (joint S.agents (part A σ)) a ≡ cond t (σ a) 0 → cond t (digit (joint S.agents (part A σ)) a < S.actions q a) (digit (joint S.agents (part A σ)) a ≡ 0)
          go a true h e = omega (arith, h tt)
          go a false h e = e

      pub number_agrees : Agree S A (digit (joint S.agents (part A σ))) σ
      number_agrees a l t = number_digit a l ∙ go (A a) t
        where
          go : (u : Bool) → T u → cond u (σ a) 0 ≡ σ a
          go true _ = refl
          go false h = absurd h

      pub number_cost : (r : ℕ) → move_cost S A q (digit (joint S.agents (part A σ))) r ≡ move_cost S A q σ r
      number_cost r = cost_cong A q r (digit (joint S.agents (part A σ))) σ S.agents number_agrees

      pub number_charge : (r : ℕ) → move_charge S A q (digit (joint S.agents (part A σ))) r ≡ move_charge S A q σ r
      number_charge r = sum_cong A _ _ S.agents (λ a l t. ap (λ (k : ℕ). S.charge q a k r) (number_agrees a l t))
