-- The conditions of numbers 1 to 6 (document 01, "Numbers for what is turned down") and 13 (document 02, R-7), each with its witness, and the verdict on a block.
-- A condition looks only at places in use, as the conditions before it leave them; number 6 looks at every other place.
use Rattle.std.specs.Prelude.{List, [], ◌∷◌, ◌⊎◌, ◌≡◌, ℕ, ◌≤◌, ◌<◌, length}
use Rattle.block.specs.Decide.{Some, Outside, BitFrom}
use Rattle.block.specs.Layout.{Block, block_bytes, max_agents, max_resources, max_states, max_propositions, max_rows, max_actions, max_units, max_joint, byte_at, agents, resources, states, propositions, rows, mask, count, cost, next, kind, left, right, team, bound, resource_kind, unlimited, charge_byte, max_kind, prop_kind, until_kind, Strategic, Binary, Available, Used}
use Rattle.block.specs.Refusal.{Answer, Rule, ◌when◌, Answers, NoValue}
use Rattle.block.specs.declared.refusal.Refusal.TheVariants.{Length, Sizes, State, Charge, Next, Row, Unused}
use Rattle.std.specs.Prelude.{Ok}

-- 2: N, R, M, P or F out of range, or the kind of a resource neither sum nor max
pub data BadSizes (b : Block) : Type 0 where
  agents_range : Outside 1 max_agents (agents b) → BadSizes b
  resources_range : Outside 1 max_resources (resources b) → BadSizes b
  states_range : Outside 1 max_states (states b) → BadSizes b
  propositions_range : Outside 1 max_propositions (propositions b) → BadSizes b
  rows_range : Outside 1 max_rows (rows b) → BadSizes b
  kinds_range : Some (resources b) (λ j. max_kind < resource_kind b j) → BadSizes b

-- a cost byte 16 to 240, of more than 15 units taken or given, or idle with a cost
abbrev pub BadCost : Block → ℕ → ℕ → ℕ → ℕ → Type 0
BadCost b s a k j = ((max_units < cost b s a k j) × (cost b s a k j < charge_byte)) ⊎ ((k ≡ 0) × (0 < cost b s a k j))

-- a count that is not 1 to 4, or a bad cost of an action that the agent has
abbrev pub BadActions : Block → ℕ → ℕ → Type 0
BadActions b s a = Outside 1 max_actions (count b s a) ⊎ Some (count b s a) (λ k. Some (resources b) (BadCost b s a k))

-- 3: in some state, a mask with a bit at or above P, or bad actions of some agent
abbrev pub BadState : Block → ℕ → Type 0
BadState b s = BitFrom (propositions b) (mask b s) ⊎ Some (agents b) (BadActions b s)

-- a charge on a resource of this kind
abbrev pub ChargeOn : ℕ → Block → ℕ → ℕ → ℕ → ℕ → Type 0
ChargeOn kind b s a k j = (resource_kind b j ≡ kind) × (charge_byte ≤ cost b s a k j)

-- by an action that the agent has
abbrev pub ActionsOn : ℕ → Block → ℕ → ℕ → Type 0
ActionsOn kind b s a = Some (count b s a) (λ k. Some (resources b) (ChargeOn kind b s a k))

-- by an action that some agent has in state s
abbrev pub ChargesOn : ℕ → Block → ℕ → Type 0
ChargesOn kind b s = Some (agents b) (ActionsOn kind b s)

-- 13: on a max resource
abbrev pub BadCharge : Block → ℕ → ℕ → ℕ → ℕ → Type 0
BadCharge = ChargeOn max_kind

abbrev pub BadCharges : Block → ℕ → Type 0
BadCharges = ChargesOn max_kind

-- 4: in some state, an available joint action whose next state is at or above M
abbrev pub BadNext : Block → ℕ → ℕ → Type 0
BadNext b s joint = Available b s joint × (states b ≤ next b s joint)

-- a bound 16 to 254: neither at most 15 nor unlimited
abbrev pub BadBound : Block → ℕ → ℕ → Type 0
BadBound b i j = (max_units < bound b i j) × (bound b i j ≡ unlimited → ⊥)

-- what the row names: a proposition at or above P, or a left or right row that is not lower
pub data BadOperands (b : Block) (i : ℕ) : Type 0 where
  prop_range : kind b i ≡ prop_kind → propositions b ≤ left b i → BadOperands b i
  left_range : prop_kind < kind b i → i ≤ left b i → BadOperands b i
  right_range : Binary (kind b i) → i ≤ right b i → BadOperands b i

-- team 0 or with an absent agent, or a bad bound
pub data BadTeam (b : Block) (i : ℕ) : Type 0 where
  team_empty : team b i ≡ 0 → BadTeam b i
  team_absent : BitFrom (agents b) (team b i) → BadTeam b i
  bound_range : Some (resources b) (BadBound b i) → BadTeam b i

-- 5: in some row, an unknown kind, or a bad field that the kind uses
pub data BadRow (b : Block) (i : ℕ) : Type 0 where
  kind_unknown : until_kind < kind b i → BadRow b i
  operands : BadOperands b i → BadRow b i
  coalition : Strategic (kind b i) → BadTeam b i → BadRow b i

-- 6: an unused place that is not 0
abbrev pub BadPlace : Block → ℕ → Type 0
BadPlace b p = (Used b p → ⊥) × (byte_at b p ≡ 0 → ⊥)

-- 1, then 2, 3, 13, 4, 5, 6, each over the whole block
abbrev pub block_rules : Block → List Rule
block_rules b =
    Length when (length b ≡ block_bytes → ⊥)
    ∷ Sizes when BadSizes b
    ∷ State when Some (states b) (BadState b)
    ∷ Charge when Some (states b) (BadCharges b)
    ∷ Next when Some (states b) (λ s. Some max_joint (BadNext b s))
    ∷ Row when Some (rows b) (BadRow b)
    ∷ Unused when Some block_bytes (BadPlace b)
    ∷ []

-- a is what the block check answers
abbrev pub Verdict : Block → Answer → Type 0
Verdict b = Answers (block_rules b) NoValue

-- the check turns nothing down
abbrev pub Passes : Block → Type 0
Passes b = Verdict b (Ok 0)
