-- How many bytes each part of a text takes at most, as the writer's contracts count them: the letters of its words with their commas, and
-- each number with the comma or line end after it: one of the block, and one below 100.
use Rattle.std.specs.Prelude.{ℕ, ◌+◌, ◌*◌}
use Rattle.block.specs.Layout.{max_agents, max_resources, max_states, max_rows, max_actions, max_joint}

abbrev pub field_bytes : ℕ
field_bytes = 4

abbrev pub index_bytes : ℕ
index_bytes = 3

-- the word of a row, with its comma
abbrev pub word_bytes : ℕ
word_bytes = 7

-- the word of a resource, without the comma or line end after it; the words of all
abbrev pub resource_bytes : ℕ
resource_bytes = 3

abbrev pub resources_bytes : ℕ
resources_bytes = field_bytes * max_resources

-- job2, five sizes and the kinds
abbrev pub header_line_bytes : ℕ
header_line_bytes = 5 + 5 * field_bytes + resources_bytes

-- the costs of an action and of an agent; acts, the state, the agent and the count before them; the acts lines of a state
abbrev pub costs_bytes : ℕ
costs_bytes = field_bytes * max_resources

abbrev pub actions_bytes : ℕ
actions_bytes = costs_bytes * max_actions

abbrev pub acts_line_bytes : ℕ
acts_line_bytes = 5 + 2 * index_bytes + field_bytes + actions_bytes

abbrev pub agent_lines_bytes : ℕ
agent_lines_bytes = acts_line_bytes * max_agents

-- go, the state and the next states
abbrev pub go_line_bytes : ℕ
go_line_bytes = 3 + index_bytes + field_bytes * max_joint

-- state, its number and its mask; all lines of a state, and of the states
abbrev pub state_line_bytes : ℕ
state_line_bytes = 6 + index_bytes + field_bytes

abbrev pub state_lines_bytes : ℕ
state_lines_bytes = state_line_bytes + agent_lines_bytes + go_line_bytes

abbrev pub states_bytes : ℕ
states_bytes = state_lines_bytes * max_states

-- the bounds of a row, its team and bounds, and what it names; a row and the rows
abbrev pub bounds_bytes : ℕ
bounds_bytes = field_bytes * max_resources

abbrev pub team_bytes : ℕ
team_bytes = field_bytes + bounds_bytes

abbrev pub operands_bytes : ℕ
operands_bytes = 2 * field_bytes

abbrev pub row_line_bytes : ℕ
row_line_bytes = word_bytes + team_bytes + operands_bytes

abbrev pub row_lines_bytes : ℕ
row_lines_bytes = row_line_bytes * max_rows
