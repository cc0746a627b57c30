-- A block that passes the check is valid: the check's conditions, none of which holds, as what they guarantee (specs' Valid).
-- Assumes nothing.
use mathlib.Core.Logic.{inl, inr}
use mathlib.Core.Path.{◌≡◌, refl}
use Prim.Native.Nat.{ℕ, ◌<◌, ◌≤◌, ◌^◌, ◌/◌}
use native.Mathlib.Nat.{div-lt_iff_lt-mul, one-mul}
use native.Mathlib.Omega.{arith}
use lib.ListN.{length}
use lib.Pow.{pow_pos}
use Rattle.block.specs.Decide.{Some, Outside, BitFrom}
use Rattle.block.specs.Inner.Tests.{Decides, holds, fails}
use Rattle.block.specs.Refusal.{Meets}
use Rattle.block.specs.Layout.{Block, block_bytes, max_joint, agents, resources, states, rows, cost}
use Rattle.block.specs.Check.{BadSizes, agents_range, resources_range, states_range, propositions_range, rows_range, kinds_range, BadState, BadCharges, BadNext, BadRow, BadPlace, kind_unknown, operands, coalition, prop_range, left_range, right_range, team_empty, team_absent, bound_range, block_rules, Verdict}
use Rattle.block.specs.Inner.Valid.{Range, Sized, Counted, RowFits, Valid}
use Rattle.block.specs.declared.refusal.Refusal.{Refusal}
use Rattle.block.specs.declared.refusal.Refusal.TheVariants.{Length, Sizes, State, Charge, Next, Row, Unused}
use Rattle.std.specs.Prelude.{Ok}
use Rattle.block.proofs.Decide as D
use Rattle.block.proofs.Masks.{bit_above}
use Rattle.block.proofs.Refusals.{Fails, none_holds, unmet}

-- an equation of numbers that cannot fail holds
pub stable : (a b : ℕ) → ((a ≡ b → ⊥) → ⊥) → a ≡ b
stable a b h = decided (D.equal a b)
  where
    decided : {t : _} → Decides (a ≡ b) t → a ≡ b
    decided (holds p) = p
    decided (fails q) = absurd (h q)

-- a number that is not outside a range is in it
pub inside : (low high n : ℕ) → (Outside low high n → ⊥) → Range low high n
inside low high n h =
    let l : n < low → ⊥ = λ x. h (inl x) in
    let g : high < n → ⊥ = λ x. h (inr x) in
    omega arith

-- a mask with no bit at or above p
below_bit : (p m : ℕ) → (BitFrom p m → ⊥) → m < 2 ^ p
below_bit p m h =
    let z : m / 2 ^ p ≡ 0 = stable (m / 2 ^ p) 0 (λ n. h (bit_above p m n)) in
    let small : m / 2 ^ p < 1 = omega arith in
    rw one-mul at ((div-lt_iff_lt-mul (pow_pos p)).0 small)

at_most : {a b : ℕ} → (b < a → ⊥) → a ≤ b
at_most h = omega arith

pub sized : {b : Block} → length b ≡ block_bytes → (BadSizes b → ⊥) → Sized b
sized e h = record {
  bytes = e;
  agents_fit = inside _ _ _ (λ x. h (agents_range x));
  resources_fit = inside _ _ _ (λ x. h (resources_range x));
  states_fit = inside _ _ _ (λ x. h (states_range x));
  propositions_fit = inside _ _ _ (λ x. h (propositions_range x));
  rows_fit = inside _ _ _ (λ x. h (rows_range x));
  kinds_fit = λ j hj. at_most (λ x. h (kinds_range (j, hj, x)));
}

pub counted : (b : Block) → (Some (states b) (BadState b) → ⊥) → Counted b
counted b h s a hs ha = inside _ _ _ (λ x. h (s, hs, inr (a, ha, inl x)))

below : {a b : ℕ} → (b ≤ a → ⊥) → a < b
below h = omega arith

-- idle is an action of every agent
idle_valid : (b : Block) → (Some (states b) (BadState b) → ⊥) → (s a j : ℕ) → s < states b → a < agents b → j < resources b → cost b s a 0 j ≡ 0
idle_valid b h s a j hs ha hj =
    let some = counted b h s a hs ha in
    let none : 0 < cost b s a 0 j → ⊥ = λ x. h (s, hs, inr (a, ha, inr (0, some.0, (j, hj, inr (refl, x))))) in
    omega arith

row_valid : {b : Block} {i : ℕ} → (BadRow b i → ⊥) → RowFits b i
row_valid {b} {i} h = record {
  known = at_most (λ x. h (kind_unknown x));
  prop_fits = λ e. below (λ x. h (operands (prop_range e x)));
  left_lower = λ k. below (λ x. h (operands (left_range k x)));
  right_lower = λ k. below (λ x. h (operands (right_range k x)));
  team_some = λ s. below (λ x. h (coalition s (team_empty (omega arith))));
  team_fits = λ s. below_bit _ _ (λ x. h (coalition s (team_absent x)));
  bound_fits = λ s j hj g. stable _ _ (λ x. h (coalition s (bound_range (j, hj, (g, x)))));
}

-- none of the block's conditions holds, in whatever order they are tried
pub unbroken : (b : Block) → Fails (block_rules b) → Valid b
unbroken b none =
    let no : (r : Refusal) → Meets (block_rules b) r → ⊥ = unmet (block_rules b) none in
    let no_length : (length b ≡ block_bytes → ⊥) → ⊥ = λ x. no Length (search (inl, inr) depth 9) in
    let no-sizes : BadSizes b → ⊥ = λ x. no Sizes (search (inl, inr) depth 9) in
    let no_state : Some (states b) (BadState b) → ⊥ = λ x. no State (search (inl, inr) depth 9) in
    let no-charge : Some (states b) (BadCharges b) → ⊥ = λ x. no Charge (search (inl, inr) depth 9) in
    let no-next : Some (states b) (λ s. Some max_joint (BadNext b s)) → ⊥ = λ x. no Next (search (inl, inr) depth 9) in
    let no_row : Some (rows b) (BadRow b) → ⊥ = λ x. no Row (search (inl, inr) depth 9) in
    let no-unused : Some block_bytes (BadPlace b) → ⊥ = λ x. no Unused (search (inl, inr) depth 9) in
    record {
      sized = sized (stable _ _ no_length) no-sizes;
      counted = counted b no_state;
      mask_fits = λ s hs. below_bit _ _ (λ x. no_state (s, hs, inl x));
      cost_fits = λ s a k j hs ha hk hj more. at_most (λ x. no_state (s, hs, inr (a, ha, inr (k, hk, (j, hj, inl (more, x))))));
      charge_sums = λ s a k j hs ha hk hj charge kind. no-charge (s, hs, (a, ha, (k, hk, (j, hj, (kind, charge)))));
      idle_free = idle_valid b no_state;
      next_fits = λ s joint hs av. below (λ x. no-next (s, hs, (joint, av.0, (av, x))));
      row_fits = λ i hi. row_valid (λ x. no_row (i, hi, x));
      unused_zero = λ p hp u. stable _ _ (λ z. no-unused (p, hp, (u, z)));
    }

pub passing : {b : Block} {n : ℕ} → Verdict b (Ok n) → Valid b
passing {b} v = unbroken b (none_holds v)
