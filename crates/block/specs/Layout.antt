-- The bytes of a job (document 01, "The job"): which place holds which field. A block is the list of its bytes, and no other file writes an offset.
use Rattle.std.specs.Prelude.{cond, List, ◌⊎◌, ◌≡◌, ℕ, ◌+◌, ◌*◌, ◌-◌, ◌/◌, ◌%◌, ◌^◌, ◌≤◌, ◌<◌, ltb, ℤ, get_or}
use Rattle.std.proofs.Math.IntN.{sub_ℕ}
use Rattle.block.specs.declared.layout.Place.{Place}
use Rattle.block.specs.declared.layout.Place.TheVariants.{Header, Mask, Count, Cost, Next, Field, ResourceKind}

abbrev pub Block : Type 0
Block = List ℕ

-- the largest sizes: agents, resources, states, propositions, rows; actions of an agent
abbrev pub max_agents : ℕ
max_agents = 3

abbrev pub max_resources : ℕ
max_resources = 2

abbrev pub max_states : ℕ
max_states = 24

abbrev pub max_propositions : ℕ
max_propositions = 8

abbrev pub max_rows : ℕ
max_rows = 32

abbrev pub max_actions : ℕ
max_actions = 4

-- the most units of a resource that an action takes or gives, or a limited bound grants
abbrev pub max_units : ℕ
max_units = 15

-- how many joint actions have a number
abbrev pub max_joint : ℕ
max_joint = max_actions ^ max_agents

-- the header's bytes: N, R, M, P and F
abbrev pub agents_byte : ℕ
agents_byte = 0

abbrev pub resources_byte : ℕ
resources_byte = 1

abbrev pub states_byte : ℕ
states_byte = 2

abbrev pub propositions_byte : ℕ
propositions_byte = 3

abbrev pub rows_byte : ℕ
rows_byte = 4

abbrev pub header_bytes : ℕ
header_bytes = 5

-- the bytes of a row; its bounds begin at bound_byte, one for each resource
abbrev pub kind_byte : ℕ
kind_byte = 0

abbrev pub left_byte : ℕ
left_byte = 1

abbrev pub right_byte : ℕ
right_byte = 2

abbrev pub team_byte : ℕ
team_byte = 3

abbrev pub bound_byte : ℕ
bound_byte = 4

abbrev pub row_bytes : ℕ
row_bytes = 8

-- the costs of an action, of an agent and of a state stand together
abbrev pub action_costs : ℕ
action_costs = max_resources

abbrev pub agent_costs : ℕ
agent_costs = max_actions * action_costs

abbrev pub state_costs : ℕ
state_costs = max_agents * agent_costs

-- where the masks, counts, costs, next states, rows and kinds of the resources begin
abbrev pub mask_base : ℕ
mask_base = header_bytes

abbrev pub count_base : ℕ
count_base = mask_base + max_states

abbrev pub cost_base : ℕ
cost_base = count_base + max_states * max_agents

abbrev pub next_base : ℕ
next_base = cost_base + max_states * state_costs

abbrev pub row_base : ℕ
row_base = next_base + max_states * max_joint

abbrev pub resource_kind_base : ℕ
resource_kind_base = row_base + max_rows * row_bytes

abbrev pub block_bytes : ℕ
block_bytes = resource_kind_base + max_resources

abbrev pub place_of : Place → ℕ
place_of (Header f) = f
place_of (Mask s) = mask_base + s
place_of (Count s a) = count_base + max_agents * s + a
place_of (Cost s a k j) = cost_base + state_costs * s + agent_costs * a + action_costs * k + j
place_of (Next s joint) = next_base + max_joint * s + joint
place_of (Field i f) = row_base + row_bytes * i + f
place_of (ResourceKind j) = resource_kind_base + j

abbrev pub byte_at : Block → ℕ → ℕ
byte_at b p = get_or b p 0

abbrev pub at : Block → Place → ℕ
at b x = byte_at b (place_of x)

-- N, R, M, P and F
abbrev pub agents : Block → ℕ
agents b = at b (Header agents_byte)

abbrev pub resources : Block → ℕ
resources b = at b (Header resources_byte)

abbrev pub states : Block → ℕ
states b = at b (Header states_byte)

abbrev pub propositions : Block → ℕ
propositions b = at b (Header propositions_byte)

abbrev pub rows : Block → ℕ
rows b = at b (Header rows_byte)

-- the mask of propositions true in state s
abbrev pub mask : Block → ℕ → ℕ
mask b s = at b (Mask s)

-- how many actions agent a has in state s
abbrev pub count : Block → ℕ → ℕ → ℕ
count b s a = at b (Count s a)

-- the byte of what agent a's action k costs of resource j in state s
abbrev pub cost : Block → ℕ → ℕ → ℕ → ℕ → ℕ
cost b s a k j = at b (Cost s a k j)

-- the next state after a joint action in state s
abbrev pub next : Block → ℕ → ℕ → ℕ
next b s joint = at b (Next s joint)

-- the fields of row i; bound j is that of resource j
abbrev pub kind : Block → ℕ → ℕ
kind b i = at b (Field i kind_byte)

abbrev pub left : Block → ℕ → ℕ
left b i = at b (Field i left_byte)

abbrev pub right : Block → ℕ → ℕ
right b i = at b (Field i right_byte)

abbrev pub team : Block → ℕ → ℕ
team b i = at b (Field i team_byte)

abbrev pub bound : Block → ℕ → ℕ → ℕ
bound b i j = at b (Field i (bound_byte + j))

-- the kind of resource j (document 02, R-3)
abbrev pub resource_kind : Block → ℕ → ℕ
resource_kind b j = at b (ResourceKind j)

-- the byte of an unlimited bound
abbrev pub unlimited : ℕ
unlimited = 255

-- a charge is held as 256 minus it (document 02, R-7): its bytes begin here
abbrev pub byte_values : ℕ
byte_values = 256

abbrev pub charge_byte : ℕ
charge_byte = byte_values - max_units

-- what a cost with this byte takes of a resource, what it gives, and the signed number that it is
abbrev pub taken : ℕ → ℕ
taken c = cond (ltb c charge_byte) c 0

abbrev pub given : ℕ → ℕ
given c = cond (ltb c charge_byte) 0 (byte_values - c)

abbrev pub signed : ℕ → ℤ
signed c = sub_ℕ (taken c) (given c)

-- the kinds of a resource: how the costs of a team's agents combine in a move
abbrev pub sum_kind : ℕ
sum_kind = 0

abbrev pub max_kind : ℕ
max_kind = 1

-- the kinds of a row
abbrev pub prop_kind : ℕ
prop_kind = 0

abbrev pub not_kind : ℕ
not_kind = 1

abbrev pub or_kind : ℕ
or_kind = 2

abbrev pub next_kind : ℕ
next_kind = 3

abbrev pub always_kind : ℕ
always_kind = 4

abbrev pub until_kind : ℕ
until_kind = 5

-- how many kinds there are
abbrev pub kinds : ℕ
kinds = 6

-- next, always and until: the kinds with a team and bounds
abbrev pub Strategic : ℕ → Type 0
Strategic k = (next_kind ≤ k) × (k ≤ until_kind)

-- or and until: the kinds with a right row
abbrev pub Binary : ℕ → Type 0
Binary k = (k ≡ or_kind) ⊎ (k ≡ until_kind)

-- agent a's action in a joint action a0 + 4·a1 + 16·a2: its digit in base max_actions
abbrev pub digit : ℕ → ℕ → ℕ
digit joint a = joint / max_actions ^ a % max_actions

-- k is an action of agent a in state s, or 0 where there is no such agent
abbrev pub Acts : Block → ℕ → ℕ → ℕ → Type 0
Acts b s a k = ((a < agents b) × (k < count b s a)) ⊎ ((agents b ≤ a) × (k ≡ 0))

-- the joint action can be done in state s
abbrev pub Available : Block → ℕ → ℕ → Type 0
Available b s joint = (joint < max_joint) × ((a : ℕ) → a < max_agents → Acts b s a (digit joint a))

-- a row of kind k uses field f
abbrev pub UsesField : Block → ℕ → ℕ → Type 0
UsesField b k f = (f ≤ left_byte) ⊎ (((f ≡ right_byte) × Binary k) ⊎ (Strategic k × ((team_byte ≤ f) × (f < bound_byte + resources b))))

abbrev pub InUse : Block → Place → Type 0
InUse b (Header f) = f < header_bytes
InUse b (Mask s) = s < states b
InUse b (Count s a) = (s < states b) × (a < agents b)
InUse b (Cost s a k j) = (s < states b) × (a < agents b) × (k < count b s a) × (j < resources b)
InUse b (Next s joint) = (s < states b) × Available b s joint
InUse b (Field i f) = (i < rows b) × UsesField b (kind b i) f
InUse b (ResourceKind j) = j < resources b

-- the job uses place p
abbrev pub Used : Block → ℕ → Type 0
Used b p = (x : Place) × (place_of x ≡ p) × InUse b x
