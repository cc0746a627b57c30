-- What a passing block guarantees. The crates above use these records in the place of the check's conditions.
use Rattle.std.specs.Prelude.{◌≡◌, ℕ, ◌≤◌, ◌<◌, ◌^◌, length}
use Rattle.block.specs.Layout.{Block, block_bytes, max_agents, max_resources, max_states, max_propositions, max_rows, max_actions, max_units, byte_at, agents, resources, states, propositions, rows, mask, count, cost, next, kind, left, right, team, bound, resource_kind, unlimited, charge_byte, max_kind, prop_kind, until_kind, Strategic, Binary, Available, Used}

abbrev pub Range : ℕ → ℕ → ℕ → Type 0
Range low high n = (low ≤ n) × (n ≤ high)

-- the length, the sizes and the kinds of the resources are right: every place of the layout can be read
pub record Sized (b : Block) : Type 0 where
  pub bytes : length b ≡ block_bytes
  pub agents_fit : Range 1 max_agents (agents b)
  pub resources_fit : Range 1 max_resources (resources b)
  pub states_fit : Range 1 max_states (states b)
  pub propositions_fit : Range 1 max_propositions (propositions b)
  pub rows_fit : Range 1 max_rows (rows b)
  pub kinds_fit : (j : ℕ) → j < resources b → resource_kind b j ≤ max_kind

-- each agent has one to four actions in each state
abbrev pub Counted : Block → Type 0
Counted b = (s a : ℕ) → s < states b → a < agents b → Range 1 max_actions (count b s a)

-- row i names lower rows, agents and propositions that exist, and a bound of a resource is at most 15 or unlimited
pub record RowFits (b : Block) (i : ℕ) : Type 0 where
  pub known : kind b i ≤ until_kind
  pub prop_fits : kind b i ≡ prop_kind → left b i < propositions b
  pub left_lower : prop_kind < kind b i → left b i < i
  pub right_lower : Binary (kind b i) → right b i < i
  pub team_some : Strategic (kind b i) → 0 < team b i
  pub team_fits : Strategic (kind b i) → team b i < 2 ^ agents b
  pub bound_fits : Strategic (kind b i) → (j : ℕ) → j < resources b → max_units < bound b i j → bound b i j ≡ unlimited

pub record Valid (b : Block) : Type 0 where
  pub sized : Sized b
  pub counted : Counted b
  pub mask_fits : (s : ℕ) → s < states b → mask b s < 2 ^ propositions b
  pub cost_fits : (s a k j : ℕ) → s < states b → a < agents b → k < count b s a → j < resources b → max_units < cost b s a k j → charge_byte ≤ cost b s a k j
  pub charge_sums : (s a k j : ℕ) → s < states b → a < agents b → k < count b s a → j < resources b → charge_byte ≤ cost b s a k j → resource_kind b j ≡ max_kind → ⊥
  pub idle_free : (s a j : ℕ) → s < states b → a < agents b → j < resources b → cost b s a 0 j ≡ 0
  pub next_fits : (s joint : ℕ) → s < states b → Available b s joint → next b s joint < states b
  pub row_fits : (i : ℕ) → i < rows b → RowFits b i
  pub unused_zero : (p : ℕ) → p < block_bytes → (Used b p → ⊥) → byte_at b p ≡ 0
