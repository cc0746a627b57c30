-- The buffer that holds the listing of a row: first the packed stocks of each stock place, then for each state its fields.
use Rattle.std.specs.Prelude.{Option, None, Some, Bool, true, false, List, ◌≡◌, ℕ, ◌+◌, ◌*◌, ◌<◌, get_or}
use Rattle.block.specs.Layout.{max_states, max_joint}
use Rattle.turns.specs.Buffers.{rank_in}
use Rattle.turns.specs.Sizes.{max_stock_places}

-- where the states begin, and how many bytes each has: two counts, and four lines with a byte for each joint action
abbrev pub states_base : ℕ
states_base = 2 * max_stock_places

abbrev pub state_bytes : ℕ
state_bytes = 2 + 4 * max_joint

abbrev pub ways_bytes : ℕ
ways_bytes = states_base + state_bytes * max_states

-- the place of field f of state s
abbrev pub field_place : ℕ → ℕ → ℕ
field_place s f = states_base + state_bytes * s + f

abbrev pub field_in : List ℕ → ℕ → ℕ → ℕ
field_in l s f = get_or l (field_place s f) 0

-- the fields with the count and the numbers of a state's moves, and of the replies there, and with what the moves take and give
abbrev pub count_at : Bool → ℕ
count_at true = 0
count_at false = 1

abbrev pub line_at : Bool → ℕ
line_at true = 2
line_at false = 2 + max_joint

abbrev pub takes_at : ℕ
takes_at = 2 + 2 * max_joint

abbrev pub gives_at : ℕ
gives_at = 2 + 3 * max_joint

-- how many moves, or replies, state s has
abbrev pub count_in : List ℕ → ℕ → Bool → ℕ
count_in l s ours = field_in l s (count_at ours)

-- the k-th of them
abbrev pub number_in : List ℕ → ℕ → Bool → ℕ → ℕ
number_in l s ours k = field_in l s (line_at ours + k)

-- the first place of the number m among them, or that it is not there
abbrev pub FoundAt : List ℕ → ℕ → Bool → ℕ → Option ℕ → Type 0
FoundAt l s ours m (Some k) = (k < count_in l s ours) × (number_in l s ours k ≡ m) × ((j : ℕ) → j < k → number_in l s ours j ≡ m → ⊥)
FoundAt l s ours m None = (j : ℕ) → j < count_in l s ours → number_in l s ours j ≡ m → ⊥

-- what the k-th move takes, and what it gives
abbrev pub taken_in : List ℕ → ℕ → ℕ → ℕ
taken_in l s k = field_in l s (takes_at + k)

abbrev pub given_in : List ℕ → ℕ → ℕ → ℕ
given_in l s k = field_in l s (gives_at + k)

-- the packed stocks of stock place x
abbrev pub packed_in : List ℕ → ℕ → ℕ
packed_in = rank_in
