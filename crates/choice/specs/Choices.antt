-- A move or a reply at one position, by the ranks where it leads; the row's set is that of its left row.
use Rattle.std.specs.Prelude.{Option, None, Some, Bool, true, List, ◌≡◌, ℕ, ◌-◌, ◌<◌, eqb}
use Rattle.block.specs.Inner.Tests.{Decides}
use Rattle.block.specs.Layout as L
use Rattle.block.specs.Layout.{Block}
use Rattle.game.specs.Position.{Position, IsPosition, MoveOf, number, Reply, Affordable, Allowed, outcome}
use Rattle.game.specs.Table.{Smallest}
use Rattle.game.specs.Model.{structure_of, coalition_of, arena_of}
use Rattle.turns.specs.Buffers.{rank_in}
use Rattle.ways.specs.Landing.{Leaves, Lands}
use Rattle.ways.specs.Lines.{count_in, number_in, taken_in}
use Rattle.ways.specs.Listing.{Useful}
use Rattle.ways.specs.Places.{PlacedAt}
use Rattle.ways.specs.Rows.{Playable}
use Rattle.ways.specs.declared.rows.Row.{Row}
use Rattle.rankings.specs.Kinds.{AimBy, CounterBy}
use Rattle.choice.specs.Tables.{ReplyFor}

-- the row as its moves are looked for: in a next row only those that lead into the set
pub record Sought (b : Block) (row : Row) (kind : ℕ) : Type 0 where
  pub playable : Playable b row
  pub kind_is : kind ≡ L.kind b row.index
  pub into_is : row.into ≡ eqb kind L.next_kind

module _ (b : Block) (row : Row) (ranks : List ℕ) (kind own : ℕ) where
  -- every outcome of the move m at p is aimed at
  abbrev pub AllAimed : Position → ℕ → Type 0
  AllAimed p m =
      (r : ℕ) → Reply (arena_of b row.index) p r
      → AimBy kind row.set own (outcome (arena_of b row.index) p m r).state (rank_in ranks (number (arena_of b row.index) (outcome (arena_of b row.index) p m r)))

  -- a test tells it of every position in state s that the move leaves with the stocks of place y
  abbrev pub AimedFrom : ℕ → ℕ → ℕ → Bool → Type 0
  AimedFrom s m y t =
      (p : Position) → IsPosition (arena_of b row.index) p → p.state ≡ s → Leaves (arena_of b row.index) p m y → Decides (AllAimed p m) t

  abbrev pub GoodBy : Position → ℕ → Type 0
  GoodBy p m = Allowed (arena_of b row.index) p m × AllAimed p m

  -- a reply to the move m that counters it
  abbrev pub CountersBy : Position → ℕ → ℕ → Type 0
  CountersBy p m r =
      Reply (arena_of b row.index) p r
      × CounterBy kind row.set own (outcome (arena_of b row.index) p m r).state (rank_in ranks (number (arena_of b row.index) (outcome (arena_of b row.index) p m r)))

  -- r is the smallest of them if there is any, from every position in state s that the move leaves with the stocks of place y
  abbrev pub FirstCounter : ℕ → ℕ → ℕ → ℕ → Type 0
  FirstCounter s m y r =
      (p : Position) → IsPosition (arena_of b row.index) p → p.state ≡ s → Leaves (arena_of b row.index) p m y
      → (k : ℕ) → CountersBy p m k → Smallest (CountersBy p m) r

-- the last listed move of state s takes nothing
abbrev pub LastFree : List ℕ → ℕ → Type 0
LastFree ways s = (0 < count_in ways s true) × (taken_in ways s (count_in ways s true - 1) ≡ 0)

-- place x of state s pays the k-th listed move
abbrev pub Pays : Block → Row → List ℕ → ℕ → ℕ → ℕ → Type 0
Pays b row ways s x k = (p : Position) → PlacedAt (arena_of b row.index) s x p → Affordable (arena_of b row.index) p (number_in ways s true k)

-- and does not
abbrev pub Lacks : Block → Row → List ℕ → ℕ → ℕ → ℕ → Type 0
Lacks b row ways s x k = (p : Position) → PlacedAt (arena_of b row.index) s x p → Affordable (arena_of b row.index) p (number_in ways s true k) → ⊥

-- the first listed move of state s that place x pays, or that it pays none
abbrev pub FirstPaid : Block → Row → List ℕ → ℕ → ℕ → Option ℕ → Type 0
FirstPaid b row ways s x (Some k) = (k < count_in ways s true) × Pays b row ways s x k × ((j : ℕ) → j < k → Lacks b row ways s x j)
FirstPaid b row ways s x None = (j : ℕ) → j < count_in ways s true → Lacks b row ways s x j

-- whether the number m is a move that matters to the row and that place x of state s pays, and the place that it leads to
abbrev pub Makes : Block → Row → ℕ → ℕ → ℕ → Option ℕ → Type 0
Makes b row s x m (Some y) = MoveOf (structure_of b) (coalition_of b row.index) s m × Lands (arena_of b row.index) s x m (Some y)
Makes b row s x m None = (p : Position) → PlacedAt (arena_of b row.index) s x p → Useful b row s m → Allowed (arena_of b row.index) p m → ⊥

-- r is the reply to the move m from every position of rank own in state s that pays it and that it leaves with the stocks of place y
abbrev pub Replied : Block → Row → ℕ → List ℕ → ℕ → ℕ → ℕ → ℕ → ℕ → Type 0
Replied b row right ranks own s m y r =
    (p : Position) → IsPosition (arena_of b row.index) p → p.state ≡ s → Leaves (arena_of b row.index) p m y → Allowed (arena_of b row.index) p m
    → rank_in ranks (number (arena_of b row.index) p) ≡ own → ReplyFor b row.index row.set right ranks p m r
