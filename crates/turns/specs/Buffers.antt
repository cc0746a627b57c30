-- Words that stand as bytes in a lent buffer, lowest byte first (document 01, "When a row is true"): ranks of two bytes, sets of four. And the table that
-- stands in two such buffers.
use Rattle.std.specs.Prelude.{List, ℕ, ◌+◌, ◌*◌, get_or}
use Rattle.game.specs.Table.{Table}

-- the rank of position p
abbrev pub rank_in : List ℕ → ℕ → ℕ
rank_in l p = get_or l (2 * p) 0 + 256 * get_or l (2 * p + 1) 0

-- the set of row i
abbrev pub word_in : List ℕ → ℕ → ℕ
word_in l i = get_or l (4 * i) 0 + 256 * get_or l (4 * i + 1) 0 + 65536 * get_or l (4 * i + 2) 0 + 16777216 * get_or l (4 * i + 3) 0

-- the i-th set of states in a buffer that is not lent, which has three bytes for each, as many bits as there are states
abbrev pub narrow_in : List ℕ → ℕ → ℕ
narrow_in l i = get_or l (3 * i) 0 + 256 * get_or l (3 * i + 1) 0 + 65536 * get_or l (3 * i + 2) 0

-- the table that stands in two buffers, of ranks and of moves
abbrev pub table_in : List ℕ → List ℕ → Table
table_in ranks moves = record { rank = rank_in ranks; move = λ n. get_or moves n 0 }
