-- What the costs of a coalition's agents come to in a move, by how the structure combines them.
--     sum_cost_lem          where the costs are added, this is document 003's definition 2
--     largest_cost      where the larger of two is taken, this is the largest of the agents' costs
--     one_cost          a coalition of one agent pays that agent's cost, added or not
-- Assumes nothing.
use mathlib.Core.Bool.{Bool, true, false, cond}
use mathlib.Core.Logic.{⊎_elim}
use mathlib.Core.Path.{◌≡◌, refl, sym, ◌∙◌}
use Prim.Native.Nat.{ℕ, zero, suc, ◌+◌, ◌≤◌, ◌<◌, max}
use native.Mathlib.Nat.{eq-or-lt_of_le}
use native.Mathlib.Omega.{arith}
use lib.Dec.{T, eqb}
use borrow.Author.Tests.{eq-eqb, ne_eqb}
use Rattle.block.specs.Layout as L
use Rattle.block.specs.Layout.{Block}
use Rattle.game.specs.Rbatl.{Joint, Coalition, Structure, cost_up_to, move_cost, sum_up_to, sum_cost}
use Rattle.game.specs.Model.{combine_of, structure_of}
use Rattle.game.proofs.Numbers.Values.{with_value, largest}

-- two costs, added or not
combine_first : (k x : ℕ) → combine_of k 0 x ≡ x
combine_first k x = go (eqb k L.sum_kind)
  where
    go : (t : Bool) → cond t (0 + x) (max 0 x) ≡ x
    go true = omega arith
    go false = omega arith

pub combine_none : (k : ℕ) → combine_of k 0 0 ≡ 0
combine_none k = combine_first k 0

pub combine_most : (k x y : ℕ) → combine_of k x y ≤ x + y
combine_most k x y = go (eqb k L.sum_kind)
  where
    go : (t : Bool) → cond t (x + y) (max x y) ≤ x + y
    go true = omega arith
    go false = omega arith

abbrev member? : (t : Bool) → Dec (T t)
member? true = yes tt
member? false = no (λ h. h)

before_last : {a n : ℕ} → a < suc n → a ≤ n
before_last h = omega arith

module _ (S : Structure) (A : Coalition) (q : ℕ) (σ : Joint) (r : ℕ) where
  -- what each agent's own action costs
  abbrev costs : ℕ → ℕ
  costs a = S.cost q a (σ a) r

  sum_up_to_lem : ((x y : ℕ) → S.combine r x y ≡ x + y) → (n : ℕ) → cost_up_to S A n q σ r ≡ sum_up_to S A n costs
  sum_up_to_lem adds zero = refl
  sum_up_to_lem adds (suc n) = go (A n) (sum_up_to_lem adds n)
    where
      go : (t : Bool) → cost_up_to S A n q σ r ≡ sum_up_to S A n costs → cond t (S.combine r (cost_up_to S A n q σ r) (S.cost q n (σ n) r)) (cost_up_to S A n q σ r) ≡ sum_up_to S A n costs + cond t (costs n) 0
      go true before = adds (cost_up_to S A n q σ r) (S.cost q n (σ n) r) ∙ omega arith
      go false before = omega arith

  pub sum_cost_lem : ((x y : ℕ) → S.combine r x y ≡ x + y) → move_cost S A q σ r ≡ sum_cost S A q σ r
  sum_cost_lem adds = sum_up_to_lem adds S.agents

  -- the largest over A's agents, as Numbers/Values has it, with its laws
  largest_up_to : ((x y : ℕ) → S.combine r x y ≡ max x y) → (n : ℕ) → cost_up_to S A n q σ r ≡ largest (λ a. member? (A a)) (λ a. S.cost q a (σ a) r) n
  largest_up_to takes zero = refl
  largest_up_to takes (suc n) = go (A n) (largest_up_to takes n)
    where
      so_far : ℕ
      so_far = largest (λ a. member? (A a)) (λ a. S.cost q a (σ a) r) n

      go : (t : Bool) → cost_up_to S A n q σ r ≡ so_far → cond t (S.combine r (cost_up_to S A n q σ r) (S.cost q n (σ n) r)) (cost_up_to S A n q σ r) ≡ with_value max (member? t) (λ _. S.cost q n (σ n) r) so_far
      go true before = takes (cost_up_to S A n q σ r) (S.cost q n (σ n) r) ∙ omega arith
      go false before = before

  pub largest_cost : ((x y : ℕ) → S.combine r x y ≡ max x y) → move_cost S A q σ r ≡ largest (λ a. member? (A a)) (λ a. S.cost q a (σ a) r) S.agents
  largest_cost takes = largest_up_to takes S.agents

  -- the coalition {a}
  module _ (a : ℕ) (alone : (c : ℕ) → A c ≡ eqb c a) (starts : (x : ℕ) → S.combine r 0 x ≡ x) where
    none_before : (n : ℕ) → n ≤ a → cost_up_to S A n q σ r ≡ 0
    none_before zero h = refl
    none_before (suc n) h = rw (alone n, ne_eqb n a (λ e. omega arith)) (none_before n (omega arith))

    one_up_to : (n : ℕ) → a < n → cost_up_to S A n q σ r ≡ S.cost q a (σ a) r
    one_up_to zero h = absurd (omega arith)
    one_up_to (suc n) h = ⊎_elim here (there (one_up_to n)) (eq-or-lt_of_le (before_last h))
      where
        here : a ≡ n → cost_up_to S A (suc n) q σ r ≡ S.cost q a (σ a) r
        here e = rw (alone n, eq-eqb n a (sym e), none_before n (omega arith), ← e) (starts (S.cost q a (σ a) r))

        there : (a < n → cost_up_to S A n q σ r ≡ S.cost q a (σ a) r) → a < n → cost_up_to S A (suc n) q σ r ≡ S.cost q a (σ a) r
        there before l = rw (alone n, ne_eqb n a (λ e. omega arith)) (before l)

    pub one_cost : a < S.agents → move_cost S A q σ r ≡ S.cost q a (σ a) r
    one_cost h = one_up_to S.agents h

-- the same of a block, by the kind of the resource
module _ (b : Block) (A : Coalition) (q : ℕ) (σ : Joint) (r : ℕ) where
  pub block_sum_cost : L.resource_kind b r ≡ L.sum_kind → move_cost (structure_of b) A q σ r ≡ sum_cost (structure_of b) A q σ r
  block_sum_cost e = sum_cost_lem (structure_of b) A q σ r (λ x y. rw e refl)

  pub block_largest_cost : L.resource_kind b r ≡ L.max_kind → move_cost (structure_of b) A q σ r ≡ largest (λ a. member? (A a)) (λ a. L.taken (L.cost b q a (σ a) r)) (L.agents b)
  block_largest_cost e = largest_cost (structure_of b) A q σ r (λ x y. rw e refl)

  pub block_one_cost : (a : ℕ) → ((c : ℕ) → A c ≡ eqb c a) → a < L.agents b → move_cost (structure_of b) A q σ r ≡ L.taken (L.cost b q a (σ a) r)
  block_one_cost a alone = one_cost (structure_of b) A q σ r a alone (combine_first (L.resource_kind b r))
