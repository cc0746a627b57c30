-- Lengths of lent buffers (document 01, "When a row is true").
use Rattle.std.specs.Prelude.{ℕ, suc, ◌*◌, ◌^◌}
use Rattle.block.specs.Layout.{max_resources, max_states, max_rows, max_units}
use Rattle.game.specs.Table.{never}

-- the stocks of one resource, the stock places of a state, with a stock of each resource, and the most positions of a row
abbrev pub max_stocks : ℕ
max_stocks = suc max_units

abbrev pub max_stock_places : ℕ
max_stock_places = max_stocks ^ max_resources

abbrev pub max_positions : ℕ
max_positions = max_states * max_stock_places

-- the bytes of a set, and its bits
abbrev pub set_bytes : ℕ
set_bytes = 4

abbrev pub set_bits : ℕ
set_bits = 8 * set_bytes

-- those of a set of states where room is short
abbrev pub narrow_bytes : ℕ
narrow_bytes = 3

abbrev pub narrow_bits : ℕ
narrow_bits = 8 * narrow_bytes

-- ranks stay below it
abbrev pub rank_end : ℕ
rank_end = suc never

-- the bytes of a set for each row, of a row's ranks (and of the working room), and of its moves
abbrev pub sets_bytes : ℕ
sets_bytes = set_bytes * max_rows

abbrev pub room_bytes : ℕ
room_bytes = 2 * max_positions

abbrev pub moves_bytes : ℕ
moves_bytes = max_positions
