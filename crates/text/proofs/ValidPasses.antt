-- A valid block passes the check: the converse of block's Passing.
-- Assumes nothing.
use mathlib.Core.Logic.{inl, inr}
use mathlib.Core.Path.{refl}
use Prim.Native.Nat.{ℕ, ◌<◌, ◌^◌}
use native.Mathlib.Nat.{div-eq_of_lt}
use native.Mathlib.Omega.{arith}
use Rattle.block.specs.Decide.{Outside, BitFrom}
use Rattle.block.specs.Layout.{Block, agents, resources, states, cost, count, kind, Strategic}
use Rattle.block.specs.Check.{BadSizes, agents_range, resources_range, states_range, propositions_range, rows_range, kinds_range, BadCost, BadActions, BadState, BadNext, BadOperands, BadTeam, BadRow, kind_unknown, operands, coalition, prop_range, left_range, right_range, team_empty, team_absent, bound_range, Passes}
use Rattle.block.specs.Inner.Valid.{Range, RowFits, Valid}
use Rattle.block.proofs.Masks.{no_bit_above}
use Rattle.block.proofs.Refusals.{past, answered}

not_outside : (low high n : ℕ) → Range low high n → Outside low high n → ⊥
not_outside low high n r (inl h) = omega arith
not_outside low high n r (inr h) = omega arith

no_bit : (p m : ℕ) → m < 2 ^ p → BitFrom p m → ⊥
no_bit p m h = no_bit_above p m (div-eq_of_lt h)

module _ (b : Block) (v : Valid b) where
  sizes_pass : BadSizes b → ⊥
  sizes_pass (agents_range h) = not_outside _ _ _ v.sized.agents_fit h
  sizes_pass (resources_range h) = not_outside _ _ _ v.sized.resources_fit h
  sizes_pass (states_range h) = not_outside _ _ _ v.sized.states_fit h
  sizes_pass (propositions_range h) = not_outside _ _ _ v.sized.propositions_fit h
  sizes_pass (rows_range h) = not_outside _ _ _ v.sized.rows_fit h
  sizes_pass (kinds_range h) = omega (arith, v.sized.kinds_fit h.0 h.1, h.2)

  cost_passes : (s a k j : ℕ) → s < states b → a < agents b → k < count b s a → j < resources b → BadCost b s a k j → ⊥
  cost_passes s a k j hs ha hk hj (inl h) = omega (arith, v.cost_fits s a k j hs ha hk hj h.0, h.1)
  cost_passes s a k j hs ha hk hj (inr h) = let f : 0 < cost b s a 0 j = rw h.0 at h.1 in omega (arith, v.idle_free s a j hs ha hj)

  actions_pass : (s a : ℕ) → s < states b → a < agents b → BadActions b s a → ⊥
  actions_pass s a hs ha (inl h) = not_outside _ _ _ (v.counted s a hs ha) h
  actions_pass s a hs ha (inr h) = cost_passes s a h.0 h.2.0 hs ha h.1 h.2.1 h.2.2

  state_passes : (s : ℕ) → s < states b → BadState b s → ⊥
  state_passes s hs (inl h) = no_bit _ _ (v.mask_fits s hs) h
  state_passes s hs (inr h) = actions_pass s h.0 hs h.1 h.2

  operands_pass : (i : ℕ) → RowFits b i → BadOperands b i → ⊥
  operands_pass i r (prop_range e h) = omega (arith, r.prop_fits e)
  operands_pass i r (left_range k h) = omega (arith, r.left_lower k)
  operands_pass i r (right_range k h) = omega (arith, r.right_lower k)

  team_passes : (i : ℕ) → RowFits b i → Strategic (kind b i) → BadTeam b i → ⊥
  team_passes i r s (team_empty h) = omega (arith, r.team_some s)
  team_passes i r s (team_absent h) = no_bit _ _ (r.team_fits s) h
  team_passes i r s (bound_range h) = h.2.1 (r.bound_fits s h.0 h.1 h.2.0)

  row_passes : (i : ℕ) → RowFits b i → BadRow b i → ⊥
  row_passes i r (kind_unknown h) = omega (arith, r.known)
  row_passes i r (operands h) = operands_pass i r h
  row_passes i r (coalition s h) = team_passes i r s h

  next_passes : (s joint : ℕ) → s < states b → BadNext b s joint → ⊥
  next_passes s joint hs h = omega (arith, v.next_fits s joint hs h.0, h.1)

  pub valid_passes : Passes b
  valid_passes =
      past (λ h. h v.sized.bytes)
      (past sizes_pass
      (past (λ h. state_passes h.0 h.1 h.2)
      (past (λ h. v.charge_sums h.0 h.2.0 h.2.2.0 h.2.2.2.0 h.1 h.2.1 h.2.2.1 h.2.2.2.1 h.2.2.2.2.1 h.2.2.2.2.0)
      (past (λ h. next_passes h.0 h.2.0 h.1 h.2.2)
      (past (λ h. row_passes h.0 (v.row_fits h.0 h.1) h.2)
      (past (λ h. h.2.1 (v.unused_zero h.0 h.1 h.2.0)) (answered refl)))))))
