-- What the code reads of a block, as the definitions say it: the next state after a move and a reply stands at their sum. Assumes nothing.
use mathlib.Core.Bool.{Bool, cond}
use mathlib.Core.Path.{◌≡◌, sym, ◌∙◌, ap, subst}
use Prim.Native.Nat.{ℕ, ◌+◌, ◌-◌, ◌/◌, ◌%◌, ◌^◌, ◌≤◌, ◌<◌, min}
use native.Mathlib.Nat.{div-div-eq-div-mul, pow-suc, pow-le-pow_right}
use native.Mathlib.Numerals.{add-one}
use native.Mathlib.Omega.{arith}
use lib.Dec.{eqb}
use borrow.Author.Tests.{eq-eqb, ne_eqb, lt-ltb, le-ltb}
use Rattle.block.specs.Layout as L
use Rattle.block.specs.Layout.{Block, digit, Strategic}
use Rattle.block.specs.Inner.Valid.{Valid, RowFits}
use Rattle.game.specs.Rbatl.{Bound, limit, unlimited, cost_up_to, sum_up_to}
use Rattle.game.specs.Position.{Position, MoveOf, Move, Reply, outcome}
use Rattle.game.specs.Inner.Stocks.{taken, given}
use Rattle.game.specs.Model.{bit, combine_of, structure_of, bound_of, coalition_of, bounds_by, bounds_of, arena_of}
use Rattle.game.proofs.Numbers.Decide.{lt?}
use Rattle.game.proofs.Numbers.Joint.{joint_below, joint_digit}
use Rattle.game.proofs.Bridge.Proper.{Proper}
use Rattle.game.proofs.Bridge.Moves.{merge, merge_small, together}

module _ (b : Block) (proper : Proper (structure_of b)) (i : ℕ) (p : Position) (m r : ℕ) (move : Move (arena_of b i) p m) (reply : Reply (arena_of b i) p r) where
  sum_below : m + r < 4 ^ L.agents b
  sum_below =
      omega (arith, together (structure_of b) proper (coalition_of b i) p.state m r move reply, joint_below (L.agents b) (merge (coalition_of b i) m r) (λ a _. merge_small (coalition_of b i) m r a))

  pub sum_small : m + r < 64
  sum_small = omega (arith, sum_below, pow-le-pow_right {n = 4} (omega arith) proper.few_agents)

  pub outcome_state : (outcome (arena_of b i) p m r).state ≡ L.next b p.state (m + r)
  outcome_state = ap (L.next b p.state) (joint_digit (L.agents b) (m + r) sum_below)

-- a byte that passes takes at most 15, and gives nothing where it is no charge
taken_small : (c : ℕ) → (15 < c → L.charge_byte ≤ c) → L.taken c ≤ 15
taken_small c fits = go (lt? c L.charge_byte)
  where
    go : Dec (c < L.charge_byte) → L.taken c ≤ 15
    go (yes less) = rw (lt-ltb c L.charge_byte less) (at_most (lt? 15 c))
      where
        at_most : Dec (15 < c) → c ≤ 15
        at_most (yes more) = absurd (omega (arith, fits more))
        at_most (no few) = omega arith
    go (no more) = let charge : L.charge_byte ≤ c = omega arith in rw (le-ltb c L.charge_byte charge) (omega arith)

given_none : (c : ℕ) → (L.charge_byte ≤ c → ⊥) → L.given c ≡ 0
given_none c none = go (lt? c L.charge_byte)
  where
    go : Dec (c < L.charge_byte) → L.given c ≡ 0
    go (yes less) = rw (lt-ltb c L.charge_byte less)
    go (no more) = absurd (none (omega arith))

-- one agent's part of a move's cost, where it is in the team or not
abbrev by_part : Block → ℕ → ℕ → ℕ → ℕ → ℕ → Bool → ℕ
by_part b team m s j a t =
    let before = cost_up_to (structure_of b) (bit team) a s (digit m) j in
    cond t (combine_of (L.resource_kind b j) before (L.taken (L.cost b s a (digit m a) j))) before

module _ (b : Block) (valid : Valid b) (team m s j a : ℕ) (state : s < L.states b) (resource : j < L.resources b) (agent : a < L.agents b) where
  pub cost_member : team / 2 ^ a % 2 ≡ 1 → cost_up_to (structure_of b) (bit team) (a + 1) s (digit m) j ≡ combine_of (L.resource_kind b j) (cost_up_to (structure_of b) (bit team) a s (digit m) j) (L.taken (L.cost b s a (m / 4 ^ a % 4) j))
  cost_member e =
      ap (λ (n : ℕ). cost_up_to (structure_of b) (bit team) n s (digit m) j) (add-one a)
      ∙ ap (by_part b team m s j a) (eq-eqb (team / 2 ^ a % 2) 1 e)

  pub cost_other : (team / 2 ^ a % 2 ≡ 1 → ⊥) → cost_up_to (structure_of b) (bit team) (a + 1) s (digit m) j ≡ cost_up_to (structure_of b) (bit team) a s (digit m) j
  cost_other ne =
      ap (λ (n : ℕ). cost_up_to (structure_of b) (bit team) n s (digit m) j) (add-one a)
      ∙ ap (by_part b team m s j a) (ne_eqb (team / 2 ^ a % 2) 1 ne)

  -- what the team's agents among the first a give, where one more is in the team or not
  abbrev charges : ℕ → ℕ
  charges n = L.given (L.cost b s n (digit m n) j)

  pub charge_member : team / 2 ^ a % 2 ≡ 1 → sum_up_to (structure_of b) (bit team) (a + 1) charges ≡ sum_up_to (structure_of b) (bit team) a charges + L.given (L.cost b s a (m / 4 ^ a % 4) j)
  charge_member e =
      ap (λ (n : ℕ). sum_up_to (structure_of b) (bit team) n charges) (add-one a)
      ∙ ap (λ (t : Bool). sum_up_to (structure_of b) (bit team) a charges + cond t (charges a) 0) (eq-eqb (team / 2 ^ a % 2) 1 e)

  pub charge_other : (team / 2 ^ a % 2 ≡ 1 → ⊥) → sum_up_to (structure_of b) (bit team) (a + 1) charges ≡ sum_up_to (structure_of b) (bit team) a charges
  charge_other ne =
      ap (λ (n : ℕ). sum_up_to (structure_of b) (bit team) n charges) (add-one a)
      ∙ ap (λ (t : Bool). sum_up_to (structure_of b) (bit team) a charges + cond t (charges a) 0) (ne_eqb (team / 2 ^ a % 2) 1 ne)
      ∙ omega arith

  -- a team's agent has its action
  member_acts : MoveOf (structure_of b) (bit team) s m → team / 2 ^ a % 2 ≡ 1 → digit m a < L.count b s a
  member_acts move e = subst (λ (t : Bool). cond t (digit m a < L.count b s a) (digit m a ≡ 0)) (eq-eqb (team / 2 ^ a % 2) 1 e) (move.1 a agent)

  pub cost_small : MoveOf (structure_of b) (bit team) s m → team / 2 ^ a % 2 ≡ 1 → L.taken (L.cost b s a (m / 4 ^ a % 4) j) ≤ 15
  cost_small move e = taken_small (L.cost b s a (m / 4 ^ a % 4) j) (valid.cost_fits s a (digit m a) j state agent (member_acts move e) resource)

  -- nothing is given of a resource that does not sum
  pub charge_none : MoveOf (structure_of b) (bit team) s m → team / 2 ^ a % 2 ≡ 1 → L.resource_kind b j ≡ L.max_kind → L.given (L.cost b s a (m / 4 ^ a % 4) j) ≡ 0
  charge_none move e kind = given_none (L.cost b s a (m / 4 ^ a % 4) j) (λ charge. valid.charge_sums s a (digit m a) j state agent (member_acts move e) resource charge kind)

-- what is left of a number after one more digit
pub shift : (n d a k : ℕ) → k ≡ n / d ^ a → k / d ≡ n / d ^ (a + 1)
shift n d a k e = ap (λ (x : ℕ). x / d) e ∙ div-div-eq-div-mul n (d ^ a) d ∙ ap (λ (x : ℕ). n / x) (sym (pow-suc d a) ∙ ap (λ (x : ℕ). d ^ x) (sym (add-one a)))

-- what stands for the byte of an unlimited bound, and for another
module _ {A : Type 0} (n : ℕ) (x y : A) where
  pub if_unlimited : n ≡ L.unlimited → cond (eqb n L.unlimited) x y ≡ x
  if_unlimited e = ap (λ (t : Bool). cond t x y) (eq-eqb n L.unlimited e)

  pub if_limited : (n ≡ L.unlimited → ⊥) → cond (eqb n L.unlimited) x y ≡ y
  if_limited ne = ap (λ (t : Bool). cond t x y) (ne_eqb n L.unlimited ne)

-- the bound of a resource that the job has
pub bound_here : (b : Block) (x : ℕ → ℕ) (j : ℕ) → j < L.resources b → bounds_by b x j ≡ bound_of (x j)
bound_here b x j resource = ap (λ (t : Bool). cond t (bound_of (x j)) unlimited) (lt-ltb j (L.resources b) resource)

module _ (b : Block) (i j : ℕ) (resource : j < L.resources b) where
  pub bound_unlimited : L.bound b i j ≡ L.unlimited → bounds_of b i j ≡ unlimited
  bound_unlimited e = bound_here b (L.bound b i) j resource ∙ if_unlimited (L.bound b i j) unlimited (limit (L.bound b i j)) e

  pub bound_limited : (L.bound b i j ≡ L.unlimited → ⊥) → bounds_of b i j ≡ limit (L.bound b i j)
  bound_limited ne = bound_here b (L.bound b i) j resource ∙ if_limited (L.bound b i j) unlimited (limit (L.bound b i j)) ne

  pub bound_small : RowFits b i → Strategic (L.kind b i) → (L.bound b i j ≡ L.unlimited → ⊥) → L.bound b i j ≤ 15
  bound_small row strategic ne = go (lt? 15 (L.bound b i j))
    where
      go : Dec (15 < L.bound b i j) → L.bound b i j ≤ 15
      go (yes h) = absurd (ne (row.bound_fits strategic j resource h))
      go (no h) = omega arith

  -- what a move takes of a resource, and what it gives
  pub taken_unlimited : (c g : ℕ) → L.bound b i j ≡ L.unlimited → taken (bounds_of b i j) c g ≡ 0
  taken_unlimited c g e = ap (λ (x : Bound). taken x c g) (bound_unlimited e)

  pub taken_limited : (c g : ℕ) → (L.bound b i j ≡ L.unlimited → ⊥) → taken (bounds_of b i j) c g ≡ c - g
  taken_limited c g ne = ap (λ (x : Bound). taken x c g) (bound_limited ne)

  pub given_unlimited : (c g : ℕ) → L.bound b i j ≡ L.unlimited → given (bounds_of b i j) c g ≡ 0
  given_unlimited c g e = ap (λ (x : Bound). given x c g) (bound_unlimited e)

  pub given_limited : (c g : ℕ) → (L.bound b i j ≡ L.unlimited → ⊥) → given (bounds_of b i j) c g ≡ min (L.bound b i j) (g - c)
  given_limited c g ne = ap (λ (x : Bound). given x c g) (bound_limited ne)
