-- The board: sets of states as words, for the next states of each listed move and for what is ranked at each stock place.
use Rattle.std.specs.Prelude.{Bool, true, false, List, ◌↔◌, ◌≡◌, ℕ, ◌+◌, ◌*◌, ◌≤◌, ◌<◌}
use Rattle.block.specs.Decide.{Bit}
use Rattle.block.specs.Layout as L
use Rattle.block.specs.Layout.{Block}
use Rattle.turns.specs.Buffers.{rank_in, narrow_in}
use Rattle.turns.specs.Inner.Rules.{ReplyTo}
use Rattle.turns.specs.Sizes.{narrow_bytes, max_stock_places}
use Rattle.ways.specs.declared.rows.Row.{Row}

-- the words before those of the places
abbrev pub nexts_words : ℕ
nexts_words = L.max_states * L.max_joint

abbrev pub board_bytes : ℕ
board_bytes = narrow_bytes * (nexts_words + max_stock_places + L.max_states)

-- the next states of the k-th listed move of state s, and the states ranked at place y
abbrev pub to_in : List ℕ → ℕ → ℕ → ℕ
to_in board s k = narrow_in board (L.max_joint * s + k)

abbrev pub won_in : List ℕ → ℕ → ℕ
won_in board y = narrow_in board (nexts_words + y)

-- the states that some listed move of state s may lead to
abbrev pub reach_in : List ℕ → ℕ → ℕ
reach_in board s = narrow_in board (nexts_words + max_stock_places + s)

-- w is the set of the states where the replies to the move m of state s lead
pub record Nexts (b : Block) (row : Row) (s m w : ℕ) : Type 0 where
  pub each : (r : ℕ) → ReplyTo b row.index s r → Bit w (L.next b s (m + r))
  pub only : (q : ℕ) → Bit w q → (r : ℕ) × ReplyTo b row.index s r × (L.next b s (m + r) ≡ q)

-- w is the set of the states whose rank at place x, of c places, is from low to below end
pub record RankedWithin (states c : ℕ) (ranks : List ℕ) (x low end w : ℕ) : Type 0 where
  pub each : (q : ℕ) → q < states → Bit w q ↔ ((low ≤ rank_in ranks (q * c + x)) × (rank_in ranks (q * c + x) < end))
  pub only : (q : ℕ) → Bit w q → q < states

-- a move serves the attack: until asks that all its next states are won, always that one is
abbrev pub Fires : Bool → ℕ → ℕ → Type 0
Fires true to won = (q : ℕ) → Bit to q → Bit won q
Fires false to won = (q : ℕ) × Bit to q × Bit won q

-- by a state that was won at the last stage
abbrev pub Newly : Bool → ℕ → ℕ → ℕ → Type 0
Newly most to won fresh = Fires most to won × Fires false to fresh
