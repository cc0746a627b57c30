-- Which condition of the block's check (block's Check) a bad byte at one place meets: the clause of the condition that looks at that very place.
use Rattle.std.specs.Prelude.{List, ◌∷◌, ◌≡◌, ℕ, ◌+◌, ◌-◌, ◌≤◌, ◌<◌}
use Rattle.block.specs.Decide.{Outside, BitFrom}
use Rattle.block.specs.Layout.{Block, max_agents, max_resources, max_states, max_propositions, max_rows, max_actions, max_units, agents_byte, resources_byte, states_byte, propositions_byte, rows_byte, left_byte, right_byte, team_byte, bound_byte, agents, resources, states, propositions, rows, mask, count, cost, kind, left, right, team, bound, unlimited, byte_values, charge_byte, prop_kind, Strategic, Binary}
use Rattle.block.specs.Check.{BadCost, BadCharge, BadNext, BadBound}
use Rattle.block.specs.declared.layout.Place.{Place}
use Rattle.block.specs.declared.layout.Place.TheVariants.{Header, Mask, Count, Cost, Next, Field}
use Rattle.block.specs.declared.refusal.Refusal.{Refusal}
use Rattle.block.specs.declared.refusal.Refusal.TheVariants as refusal
use Rattle.text.specs.Numeral.{comma, minus, field, Starts}
use Rattle.text.specs.Job.{list_end}

-- the byte at this place, one that the job uses, meets the condition of this refusal
pub data BrokenAt (b : Block) : Place → Refusal → Type 0 where
  -- 2: a size out of range
  agents_at : Outside 1 max_agents (agents b) → BrokenAt b (Header agents_byte) refusal.Sizes
  resources_at : Outside 1 max_resources (resources b) → BrokenAt b (Header resources_byte) refusal.Sizes
  states_at : Outside 1 max_states (states b) → BrokenAt b (Header states_byte) refusal.Sizes
  propositions_at : Outside 1 max_propositions (propositions b) → BrokenAt b (Header propositions_byte) refusal.Sizes
  rows_at : Outside 1 max_rows (rows b) → BrokenAt b (Header rows_byte) refusal.Sizes
  -- 3: a mask with a bit at or above P, a count that is not 1 to 4, a cost byte 16 to 240 or of idle
  mask_at : {s : ℕ} → s < states b → BitFrom (propositions b) (mask b s) → BrokenAt b (Mask s) refusal.State
  count_at : {s a : ℕ} → s < states b → a < agents b → Outside 1 max_actions (count b s a) → BrokenAt b (Count s a) refusal.State
  cost_at : {s a k j : ℕ} → s < states b → a < agents b → k < count b s a → j < resources b → BadCost b s a k j → BrokenAt b (Cost s a k j) refusal.State
  -- 13: a charge on a max resource
  charge_at : {s a k j : ℕ} → s < states b → a < agents b → k < count b s a → j < resources b → BadCharge b s a k j → BrokenAt b (Cost s a k j) refusal.Charge
  -- 4: a next state at or above M, of a joint action that can be done
  next_at : {s joint : ℕ} → s < states b → BadNext b s joint → BrokenAt b (Next s joint) refusal.Next
  -- 5: a proposition at or above P, a row that is not lower, a team that is empty or has an absent agent, a bound 16 to 254
  prop_at : {i : ℕ} → i < rows b → kind b i ≡ prop_kind → propositions b ≤ left b i → BrokenAt b (Field i left_byte) refusal.Row
  left_at : {i : ℕ} → i < rows b → prop_kind < kind b i → i ≤ left b i → BrokenAt b (Field i left_byte) refusal.Row
  right_at : {i : ℕ} → i < rows b → Binary (kind b i) → i ≤ right b i → BrokenAt b (Field i right_byte) refusal.Row
  team_empty_at : {i : ℕ} → i < rows b → Strategic (kind b i) → team b i ≡ 0 → BrokenAt b (Field i team_byte) refusal.Row
  team_absent_at : {i : ℕ} → i < rows b → Strategic (kind b i) → BitFrom (agents b) (team b i) → BrokenAt b (Field i team_byte) refusal.Row
  bound_at : {i j : ℕ} → i < rows b → Strategic (kind b i) → j < resources b → BadBound b i j → BrokenAt b (Field i (bound_byte + j)) refusal.Row

-- a value that is refused in a text by a number whose condition its byte does not meet, since the byte is that of another spelling
pub data SharedByte (b : Block) (t : List ℕ) : Place → Refusal → Type 0 where
  -- a bound that the text t begins with as the number 255, the byte of an unlimited bound, which only inf may spell
  unlimited_number : {i j : ℕ} → i < rows b → Strategic (kind b i) → j < resources b → bound b i j ≡ unlimited → Starts (field unlimited comma) t →
      SharedByte b t (Field i (bound_byte + j)) refusal.Row
  -- a cost of another action than idle that t begins with as a number from 241 on, the byte of a charge
  cost_number : {s a k j : ℕ} (left : ℕ) → s < states b → a < agents b → k < count b s a → j < resources b → 0 < k → charge_byte ≤ cost b s a k j →
      Starts (field (cost b s a k j) (list_end left)) t → SharedByte b t (Cost s a k j) refusal.State
  -- one that t begins with as a charge of 241 units or more, with the byte of a cost of 1 to 15
  charge_number : {s a k j : ℕ} (left : ℕ) → s < states b → a < agents b → k < count b s a → j < resources b → 0 < k → 0 < cost b s a k j → cost b s a k j ≤ max_units →
      Starts (minus ∷ field (byte_values - cost b s a k j) (list_end left)) t → SharedByte b t (Cost s a k j) refusal.State
