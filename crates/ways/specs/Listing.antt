-- The moves of each state of a row and the replies there, listed.
use Rattle.std.specs.Prelude.{Bool, true, false, List, ◌⊎◌, ◌≡◌, ℕ, ◌+◌, ◌≤◌, ◌<◌, get_or, length}
use Rattle.block.specs.Decide.{Bit, Some}
use Rattle.block.specs.Layout as L
use Rattle.block.specs.Layout.{Block}
use Rattle.game.specs.Position.{Allowed, full}
use Rattle.game.specs.Inner.Stocks.{offset, refill}
use Rattle.game.specs.Model.{arena_of}
use Rattle.turns.specs.Inner.Rules.{ReplyTo}
use Rattle.ways.specs.Lines.{ways_bytes, count_in, number_in, taken_in, given_in}
use Rattle.ways.specs.Packed.{Packs}
use Rattle.ways.specs.declared.rows.Row.{Row}

-- whatever the reply, the move m leads from state s into the set
abbrev pub LeadsInto : Block → ℕ → ℕ → ℕ → ℕ → Type 0
LeadsInto b i s m set = (r : ℕ) → ReplyTo b i s r → Bit set (L.next b s (m + r))

-- a move that full stock pays, and that leads into the set where only such moves matter; or, where not ours, a reply
abbrev pub Eligible : Block → Row → ℕ → Bool → ℕ → Type 0
Eligible b row s true m = Allowed (arena_of b row.index) (full (arena_of b row.index) s) m × (row.into ≡ true → LeadsInto b row.index s m row.set)
Eligible b row s false m = ReplyTo b row.index s m

-- a move into the set that takes nothing: every stock pays it, so no larger move matters
abbrev pub Free : Block → Row → ℕ → ℕ → Type 0
Free b row s m =
    Allowed (arena_of b row.index) (full (arena_of b row.index) s) m × LeadsInto b row.index s m row.set
    × (offset (arena_of b row.index) (full (arena_of b row.index) s) m ≡ 0)

-- a line ends with it, if it is of moves into the set
abbrev pub Ends : Block → Row → ℕ → Bool → ℕ → Type 0
Ends b row s ours m = (ours ≡ true) × (row.into ≡ true) × Free b row s m

-- a move that full stock pays and that matters to the row
abbrev pub Useful : Block → Row → ℕ → ℕ → Type 0
Useful b row s m =
    Allowed (arena_of b row.index) (full (arena_of b row.index) s) m × (row.into ≡ true → LeadsInto b row.index s m row.set)
    × (row.into ≡ true → (k : ℕ) → k < m → Free b row s k → ⊥)

-- such a move where ours, and else a reply
abbrev pub Listable : Block → Row → ℕ → Bool → ℕ → Type 0
Listable b row s true m = Useful b row s m
Listable b row s false m = ReplyTo b row.index s m

-- the first n of the numbers `at` are those of which P holds, rising
pub record LineOf (P : ℕ → Type 0) (at : ℕ → ℕ) (n : ℕ) : Type 0 where
  pub each : (m : ℕ) → P m → (k : ℕ) × (k < n) × (at k ≡ m)
  pub only : (k : ℕ) → k < n → P (at k)
  pub rising : (j k : ℕ) → j < k → k < n → at j < at k
  pub few : n ≤ L.max_joint

-- what each listed move of state s takes and gives
abbrev pub EffectsOf : Block → Row → ℕ → List ℕ → Type 0
EffectsOf b row s ways =
    (k : ℕ) → k < count_in ways s true
    → (taken_in ways s k ≡ offset (arena_of b row.index) (full (arena_of b row.index) s) (number_in ways s true k))
    × (given_in ways s k ≡ refill (arena_of b row.index) (full (arena_of b row.index) s) (number_in ways s true k))

-- a listed move of state s gives something, and one of any state
abbrev pub StateGives : List ℕ → ℕ → Type 0
StateGives ways s = Some (count_in ways s true) (λ k. 0 < given_in ways s k)

abbrev pub AnyGives : Block → List ℕ → Type 0
AnyGives b ways = Some (L.states b) (StateGives ways)

pub record StateListed (b : Block) (row : Row) (s : ℕ) (ways : List ℕ) : Type 0 where
  pub lines : (ours : Bool) → LineOf (Listable b row s ours) (number_in ways s ours) (count_in ways s ours)
  pub effects : EffectsOf b row s ways

pub record Listed (b : Block) (row : Row) (ways : List ℕ) : Type 0 where
  pub states : (s : ℕ) → s < L.states b → StateListed b row s ways
  pub told : row.gives ≡ false → AnyGives b ways → ⊥
  pub packed : Packs (arena_of b row.index) ways
  pub long : length ways ≡ ways_bytes

-- nothing changed but in the places from `first` to before `end`
pub record SameOutside (first end : ℕ) (l l' : List ℕ) : Type 0 where
  pub same : (p : ℕ) → (p < first) ⊎ (end ≤ p) → get_or l' p 0 ≡ get_or l p 0
  pub long : length l' ≡ length l
