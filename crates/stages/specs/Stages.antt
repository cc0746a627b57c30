-- A stage gives one rank to every position that earns it by what was ranked before, and to no other.
use Rattle.std.specs.Prelude.{Option, None, Some, Bool, true, false, List, ◌↔◌, ◌⊎◌, ◌≡◌, ℕ, ◌+◌, ◌*◌, ◌-◌, ◌≤◌, ◌<◌, get_or, length}
use Rattle.block.specs.Decide.{Bit}
use Rattle.block.specs.Layout as L
use Rattle.block.specs.Layout.{Block}
use Rattle.game.specs.Model.{arena_of}
use Rattle.game.specs.Position.{positions}
use Rattle.game.specs.Table.{never}
use Rattle.turns.specs.Buffers.{rank_in, narrow_in}
use Rattle.turns.specs.Sizes.{max_stock_places, room_bytes}
use Rattle.ways.specs.Landing.{Lands}
use Rattle.ways.specs.Lines.{count_in, number_in}
use Rattle.ways.specs.Listing.{Listed}
use Rattle.ways.specs.Rows.{Playable}
use Rattle.ways.specs.declared.rows.Row.{Row}
use Rattle.boards.specs.Boards.{nexts_words, board_bytes, to_in, won_in, reach_in, Nexts, RankedWithin, Fires, Newly}

-- a word from here on stands for no rank yet: for always, which listed move is waited for
abbrev pub hold : ℕ
hold = never - L.max_joint

-- a word keeps a position from its rank: until, where it stands for none; always, where it waits for move k
abbrev pub Waiting : Bool → ℕ → ℕ → Type 0
Waiting true k r = hold ≤ r
Waiting false k r = r ≡ hold + k

-- the flags of the places where a rank was given at the last stage, and at this one
abbrev pub flags_bytes : ℕ
flags_bytes = 2 * max_stock_places

abbrev pub due_at : List ℕ → ℕ → ℕ
due_at flags y = get_or flags y 0

abbrev pub marked_at : List ℕ → ℕ → ℕ
marked_at flags x = get_or flags (max_stock_places + x) 0

-- what every part of a stage works on: a listed row, and a board with the next states of its moves
pub record Prepared (b : Block) (row : Row) (ways board : List ℕ) : Type 0 where
  pub playable : Playable b row
  pub listed : Listed b row ways
  pub all : row.into ≡ false
  pub nexts : (s k : ℕ) → s < L.states b → k < count_in ways s true → Nexts b row s (number_in ways s true k) (to_in board s k)
  pub reaches : (s k q : ℕ) → s < L.states b → k < count_in ways s true → Bit (to_in board s k) q → Bit (reach_in board s) q
  pub long : length board ≡ board_bytes

-- the rank of state s at place x
abbrev pub rank_of : Row → List ℕ → ℕ → ℕ → ℕ
rank_of row ranks s x = rank_in ranks (s * row.places + x)

module _ (b : Block) (row : Row) (ways board : List ℕ) where
  -- the k-th listed move of state s is paid at place x and lands at place y
  abbrev pub To : ℕ → ℕ → ℕ → ℕ → Type 0
  To s x k y = (k < count_in ways s true) × Lands (arena_of b row.index) s x (number_in ways s true k) (Some y)

  abbrev pub FiresAt : Bool → ℕ → ℕ → ℕ → Type 0
  FiresAt most s k y = Fires most (to_in board s k) (won_in board y)

  -- the move is paid and leads to nothing that is ranked
  abbrev pub Stays : ℕ → ℕ → ℕ → Type 0
  Stays s x k = (y : ℕ) × To s x k y × (FiresAt false s k y → ⊥)

  -- the first such move from `from` on, or that there is none
  abbrev pub FirstStaying : ℕ → ℕ → ℕ → Option ℕ → Type 0
  FirstStaying s x from (Some k) = (from ≤ k) × (k < count_in ways s true) × Stays s x k × ((j : ℕ) → from ≤ j → j < k → Stays s x j → ⊥)
  FirstStaying s x from None = (j : ℕ) → from ≤ j → j < count_in ways s true → Stays s x j → ⊥

  -- what is waited for at an unranked position of always: a move that is paid, where those before it that are paid serve the attack
  pub record Waits (s x k : ℕ) : Type 0 where
    pub place : ℕ
    pub to : To s x k place
    pub below : (j y : ℕ) → j < k → To s x j y → FiresAt false s j y

  -- a position earns a rank: until by a move that serves, always when all moves do
  abbrev pub Earned : Bool → ℕ → ℕ → Type 0
  Earned true s x = (k : ℕ) × (y : ℕ) × To s x k y × FiresAt true s k y
  Earned false s x = (k y : ℕ) → To s x k y → FiresAt false s k y

  -- what becomes of the word of a position at stage n
  pub data Step (most : Bool) (n s x : ℕ) : ℕ → ℕ → Type 0 where
    same : {r : ℕ} → Step most n s x r r
    ranked : {r : ℕ} → hold ≤ r → Earned most s x → Step most n s x r n
    passed : {r : ℕ} (k : ℕ) → most ≡ false → hold ≤ r → Waits s x k → Stays s x k → Step most n s x r (hold + k)

  -- the words of unranked positions of always tell what is waited for
  abbrev pub Held : Bool → List ℕ → Type 0
  Held most ranks =
      most ≡ false → (s x : ℕ) → s < L.states b → x < row.places → hold ≤ rank_of row ranks s x
      → (k : ℕ) × (rank_of row ranks s x ≡ hold + k) × Waits s x k

  -- the move no longer keeps the position from its rank
  abbrev pub Past : Bool → ℕ → ℕ → Type 0
  Past true k r = r < hold
  Past false k r = r ≡ hold + k → ⊥

  -- part of stage n: words step on in safe states, a place is marked where a rank was given, and only there
  pub record Evolved (most : Bool) (safe n : ℕ) (ranks flags ranks' flags' : List ℕ) : Type 0 where
    pub steps : (s x : ℕ) → s < L.states b → x < row.places → Step most n s x (rank_of row ranks s x) (rank_of row ranks' s x)
    pub safely : (s x : ℕ) → s < L.states b → x < row.places → (rank_of row ranks' s x ≡ rank_of row ranks s x → ⊥) → Bit safe s
    pub marked : (s x : ℕ) → s < L.states b → x < row.places → hold ≤ rank_of row ranks s x → rank_of row ranks' s x < hold → marked_at flags' x ≡ 1
    pub still : (x : ℕ) → x < row.places → marked_at flags x ≡ 1 → marked_at flags' x ≡ 1
    pub only : (x : ℕ) → x < row.places → marked_at flags' x ≡ 1
        → (marked_at flags x ≡ 1) ⊎ ((s : ℕ) × (s < L.states b) × (hold ≤ rank_of row ranks s x) × (rank_of row ranks' s x < hold))
    pub due : (y : ℕ) → y < max_stock_places → due_at flags' y ≡ due_at flags y
    pub beyond : (p : ℕ) → positions (arena_of b row.index) ≤ p → rank_in ranks' p ≡ rank_in ranks p
    pub ranks_long : length ranks' ≡ length ranks
    pub flags_long : length flags' ≡ length flags

  -- the ranks and flags that a part of stage n is lent
  pub record Lent (most : Bool) (n : ℕ) (ranks flags : List ℕ) : Type 0 where
    pub small : n < hold
    pub held : Held most ranks
    pub ranks_long : length ranks ≡ room_bytes
    pub flags_long : length flags ≡ flags_bytes

  -- past the k-th move of state s, by which every place that leads to y is done with
  abbrev pub DoneWith : Bool → List ℕ → ℕ → ℕ → ℕ → Type 0
  DoneWith most ranks s k y = (x : ℕ) → x < row.places → To s x k y → Past most k (rank_of row ranks s x)

  -- every move of state s that serves newly at y, by the fresh states there; every state
  abbrev pub StateDone : Bool → List ℕ → ℕ → ℕ → ℕ → Type 0
  StateDone most ranks y fresh s = (k : ℕ) → k < count_in ways s true → Newly most (to_in board s k) (won_in board y) fresh → DoneWith most ranks s k y

  abbrev pub PlaceDone : Bool → ℕ → List ℕ → ℕ → ℕ → Type 0
  PlaceDone most safe ranks y fresh = (s : ℕ) → s < L.states b → Bit safe s → StateDone most ranks y fresh s

-- after a stage, with n the next: place x is due if it was marked, and then its set is that of its ranks below n; nothing else changes
pub record Turned (states c : ℕ) (ranks : List ℕ) (n x : ℕ) (did : Bool) (board flags board' flags' : List ℕ) : Type 0 where
  pub set : marked_at flags x ≡ 1 → RankedWithin states c ranks x 0 n (won_in board' x)
  pub kept : (marked_at flags x ≡ 1 → ⊥) → won_in board' x ≡ won_in board x
  pub due : due_at flags' x ≡ marked_at flags x
  pub cleared : marked_at flags' x ≡ 0
  pub told : (did ≡ true) ↔ (marked_at flags x ≡ 1)
  pub words : (i : ℕ) → (i ≡ nexts_words + x → ⊥) → narrow_in board' i ≡ narrow_in board i
  pub others : (y : ℕ) → (y ≡ x → ⊥) → y < max_stock_places → (due_at flags' y ≡ due_at flags y) × (marked_at flags' y ≡ marked_at flags y)
  pub board_long : length board' ≡ length board
  pub flags_long : length flags' ≡ length flags

-- the same of the places below m
pub record TurnedTo (states c : ℕ) (ranks : List ℕ) (n m : ℕ) (did : Bool) (board flags board' flags' : List ℕ) : Type 0 where
  pub set : (x : ℕ) → x < m → marked_at flags x ≡ 1 → RankedWithin states c ranks x 0 n (won_in board' x)
  pub kept : (x : ℕ) → x < m → (marked_at flags x ≡ 1 → ⊥) → won_in board' x ≡ won_in board x
  pub due : (x : ℕ) → x < m → due_at flags' x ≡ marked_at flags x
  pub cleared : (x : ℕ) → x < m → marked_at flags' x ≡ 0
  pub some : did ≡ true → (x : ℕ) × (x < m) × (marked_at flags x ≡ 1)
  pub none : did ≡ false → (x : ℕ) → x < m → marked_at flags x ≡ 1 → ⊥
  pub words : (i : ℕ) → (i < nexts_words) ⊎ (nexts_words + max_stock_places ≤ i) → narrow_in board' i ≡ narrow_in board i
  pub above : (x : ℕ) → m ≤ x → x < max_stock_places → (due_at flags' x ≡ due_at flags x) × (marked_at flags' x ≡ marked_at flags x) × (won_in board' x ≡ won_in board x)
  pub board_long : length board' ≡ length board
  pub flags_long : length flags' ≡ length flags
