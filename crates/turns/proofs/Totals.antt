-- What a move costs, agent by agent: the signed total is what the team's agents so far take, less what they give. Assumes nothing.
use mathlib.Core.Path.{◌≡◌, refl, sym, ◌∙◌, ap, ap₂, subst}
use Prim.Native.Nat.{ℕ, ◌+◌, ◌*◌, ◌/◌, ◌%◌, ◌^◌, ◌≤◌, ◌<◌}
use native.Mathlib.Omega.{arith}
use lib.IntN.{ℤ, sub_ℕ, ◌+ℤ◌}
use mir.Syntax.{w32}
use mir.Val.{SFits, to_z, of_z}
use Rattle.block.specs.Layout as L
use Rattle.block.specs.Layout.{Block, digit}
use Rattle.block.specs.Inner.Valid.{Valid}
use Rattle.block.proofs.Signed.{sub_add, sub_fits, sub_held, taken_given}
use Rattle.game.specs.Rbatl.{cost_up_to, sum_up_to}
use Rattle.game.specs.Position.{MoveOf}
use Rattle.game.specs.Model.{bit, structure_of}
use Rattle.game.proofs.Numbers.Decide.{eq?}
use Rattle.game.proofs.Bridge.Costs.{combine_most}
use Rattle.game.proofs.Blocks.Reading.{cost_member, cost_other, cost_small, charge_member, charge_other, charge_none}
use Rattle.turns.specs.Inner.Costs.{combined_cost}
use Rattle.turns.proofs.Costs.{combined_is}

-- what the team's agents among the first a take of resource j with their actions of m, and what they give
abbrev pub taken_to : Block → ℕ → ℕ → ℕ → ℕ → ℕ → ℕ
taken_to b team m s j a = cost_up_to (structure_of b) (bit team) a s (digit m) j

abbrev pub given_to : Block → ℕ → ℕ → ℕ → ℕ → ℕ → ℕ
given_to b team m s j a = sum_up_to (structure_of b) (bit team) a (λ n. L.given (L.cost b s n (digit m n) j))

pub record TotalTo (b : Block) (team m s j a : ℕ) (z : ℤ) : Type 0 where
  pub is : z ≡ sub_ℕ (taken_to b team m s j a) (given_to b team m s j a)
  pub takes_few : taken_to b team m s j a ≤ 15 * a
  pub gives_few : given_to b team m s j a ≤ 15 * a
  -- nothing is given of a resource that does not sum
  pub gives_none : (L.resource_kind b j ≡ L.sum_kind → ⊥) → given_to b team m s j a ≡ 0

pub total_none : (b : Block) (team m s j : ℕ) (z : ℤ) → z ≡ sub_ℕ 0 0 → TotalTo b team m s j 0 z
total_none b team m s j z e = record { is = e; takes_few = omega arith; gives_few = omega arith; gives_none = λ _. refl }

-- the total as the code's variable holds it
pub total_fits : (b : Block) (team m s j a : ℕ) (z : ℤ) → a ≤ 3 → TotalTo b team m s j a z → SFits w32 z
total_fits b team m s j a z few total = subst (SFits w32) (sym total.is) (sub_fits (taken_to b team m s j a) (given_to b team m s j a) (omega (arith, total.takes_few)) (omega (arith, total.gives_few)))

-- one more agent
module _ (b : Block) (valid : Valid b) (team m s j a : ℕ) (state : s < L.states b) (resource : j < L.resources b) (agent : a < L.agents b)
    (move : MoveOf (structure_of b) (bit team) s m) (z : ℤ) (so_far : TotalTo b team m s j a z) where
  few : a < 3
  few = omega (arith, valid.sized.agents_fit)

  pub total_other : (team / 2 ^ a % 2 ≡ 1 → ⊥) → TotalTo b team m s j (a + 1) z
  total_other ne =
      let takes = cost_other b valid team m s j a state resource agent ne in
      let gives = charge_other b valid team m s j a state resource agent ne in
      record {
        is = so_far.is ∙ ap₂ sub_ℕ (sym takes) (sym gives);
        takes_few = omega (arith, takes, so_far.takes_few);
        gives_few = omega (arith, gives, so_far.gives_few);
        gives_none = λ other. gives ∙ so_far.gives_none other;
      }

  module _ (member : team / 2 ^ a % 2 ≡ 1) (y : ℤ) (is_cost : y ≡ L.signed (L.cost b s a (m / 4 ^ a % 4) j)) where
    abbrev c : ℕ
    c = L.cost b s a (m / 4 ^ a % 4) j

    takes_here : L.taken c ≤ 15
    takes_here = cost_small b valid team m s j a state resource agent move member

    pub cost_held : to_z w32 (of_z w32 y) ≡ y
    cost_held = ap (λ (x : ℤ). to_z w32 (of_z w32 x)) is_cost ∙ sub_held (L.taken c) (L.given c) (omega (arith, takes_here)) (omega (arith, taken_given c)) ∙ sym is_cost

    pub sum_fits : SFits w32 (z +ℤ y)
    sum_fits =
        subst (SFits w32) (sym (ap₂ ◌+ℤ◌ so_far.is is_cost ∙ sub_add (taken_to b team m s j a) (given_to b team m s j a) (L.taken c) (L.given c)))
        (sub_fits (taken_to b team m s j a + L.taken c) (given_to b team m s j a + L.given c) (omega (arith, so_far.takes_few, takes_here, few)) (omega (arith, so_far.gives_few, taken_given c, few)))

    gives_nothing : (L.resource_kind b j ≡ L.sum_kind → ⊥) → L.given c ≡ 0
    gives_nothing other = charge_none b valid team m s j a state resource agent move member (omega (arith, other_kind (eq? (L.resource_kind b j) L.sum_kind), valid.sized.kinds_fit j resource))
      where
        other_kind : Dec (L.resource_kind b j ≡ L.sum_kind) → 0 < L.resource_kind b j
        other_kind (yes e) = absurd (other e)
        other_kind (no ne) = omega arith

    pub total_member : (kind : ℕ) → kind ≡ L.resource_kind b j → TotalTo b team m s j (a + 1) (combined_cost kind z y)
    total_member kind of =
        let takes = cost_member b valid team m s j a state resource agent member in
        let gives = charge_member b valid team m s j a state resource agent member in
        record {
          is =
              ap (λ (k : ℕ). combined_cost k z y) of
              ∙ ap₂ (combined_cost (L.resource_kind b j)) so_far.is is_cost
              ∙ combined_is (L.resource_kind b j) (taken_to b team m s j a) (given_to b team m s j a) (L.taken c) (L.given c) (λ other. (so_far.gives_none other, gives_nothing other))
              ∙ ap₂ sub_ℕ (sym takes) (sym gives);
          takes_few = omega (arith, takes, so_far.takes_few, takes_here, combine_most (L.resource_kind b j) (taken_to b team m s j a) (L.taken c));
          gives_few = omega (arith, gives, so_far.gives_few, taken_given c);
          gives_none = λ other. omega (arith, gives, so_far.gives_none other, gives_nothing other);
        }
