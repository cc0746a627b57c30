-- A sweep lowers ranks in place, until and always by one notion: what it keeps, what falls, and where it comes to rest. Where stock is only
-- spent, ranks at one stock place depend on those at places that are not above it: the places come to rest one by one. Where moves give, a
-- place is flagged when ranks fell at a place that it leads to.
use Rattle.std.specs.Prelude.{Bool, true, false, List, ◌≡◌, ℕ, suc, ◌+◌, ◌*◌, ◌-◌, ◌≤◌, ◌<◌, get_or, length}
use Rattle.block.specs.Decide.{Bit}
use Rattle.game.specs.Position.{Arena, Position, IsPosition, number, positions}
use Rattle.game.specs.Inner.Stocks.{stocks_of, stock_places}
use Rattle.game.specs.Inner.Facts.{Ranked}
use Rattle.turns.specs.Buffers.{rank_in}
use Rattle.game.specs.Inner.Sweep.{Kept, total}
use Rattle.turns.specs.Sizes.{max_stock_places}
use Rattle.ways.specs.Back.{Flags}
use Rattle.ways.specs.Places.{PlacedAt}
use Rattle.sweeps.specs.Values.{Attacks, Defends}

-- finite ranks are sound and crowded, where the sets of safe states and of goals are words
abbrev pub KeptFor : Arena → Bool → ℕ → ℕ → List ℕ → Type 0
KeptFor G most safe goal l = Kept G (Bit safe) (Bit goal) (Attacks G most) (rank_in l)

-- at stock place x of state s nothing does better
abbrev pub RestsAt : Arena → Bool → ℕ → ℕ → ℕ → List ℕ → Type 0
RestsAt G most safe x s l = (p : Position) → PlacedAt G s x p → Bit safe s → Defends G most p (λ y. rank_in l (number G p) ≤ suc (rank_in l (number G y)))

-- and in the first n states
abbrev pub RestsBelow : Arena → Bool → ℕ → ℕ → ℕ → List ℕ → Type 0
RestsBelow G most safe x n l = (s : ℕ) → s < n → RestsAt G most safe x s l

-- the k-th of n states, rising or falling
abbrev pub visit : Bool → ℕ → ℕ → ℕ
visit true n k = n - 1 - k
visit false n k = k

-- only ranks at stock place x changed
pub record ChangedAt (G : Arena) (x : ℕ) (l l' : List ℕ) : Type 0 where
  pub elsewhere : (p : Position) → IsPosition G p → (number G (stocks_of G p) ≡ x → ⊥) → rank_in l' (number G p) ≡ rank_in l (number G p)
  pub beyond : (n : ℕ) → positions G ≤ n → rank_in l' n ≡ rank_in l n
  pub long : length l' ≡ length l

-- part of a sweep at place x: it did something and the sum of the ranks fell, or it did nothing and this part rests
pub record Swept (G : Arena) (most : Bool) (safe x : ℕ) (Rests : List ℕ → Type 0) (did : Bool) (l l' : List ℕ) : Type 0 where
  pub kept : (goal : ℕ) → KeptFor G most safe goal l → KeptFor G most safe goal l'
  pub falls : did ≡ true → total (rank_in l') (positions G) < total (rank_in l) (positions G)
  pub quiet : did ≡ false → (l' ≡ l) × Rests l
  pub changed : ChangedAt G x l l'

-- sweeps at place x came to rest: some rank fell, or none did
pub record PlaceSettled (G : Arena) (most : Bool) (safe x : ℕ) (did : Bool) (l l' : List ℕ) : Type 0 where
  pub kept : (goal : ℕ) → KeptFor G most safe goal l → KeptFor G most safe goal l'
  pub rests : RestsBelow G most safe x G.structure.states l'
  pub changed : ChangedAt G x l l'
  pub falls : did ≡ true → total (rank_in l') (positions G) < total (rank_in l) (positions G)
  pub quiet : did ≡ false → l' ≡ l

-- all places came to rest: whatever the goals were, sound ranks are the right ones now
pub record Settled (G : Arena) (most : Bool) (safe : ℕ) (l l' : List ℕ) : Type 0 where
  pub ranked : (goal : ℕ) → KeptFor G most safe goal l → Ranked G (Bit safe) (Bit goal) (λ p. rank_in l' (number G p)) (Attacks G most) (Defends G most)
  pub beyond : (n : ℕ) → positions G ≤ n → rank_in l' n ≡ rank_in l n
  pub long : length l' ≡ length l

-- each stock place without a flag rests
abbrev pub RestsUnflagged : Arena → Bool → ℕ → List ℕ → List ℕ → Type 0
RestsUnflagged G most safe flags l = (z : ℕ) → z < stock_places G → get_or flags z 0 ≡ 0 → RestsBelow G most safe z G.structure.states l

-- what is left to do: ranks fall, and while they do places are flagged
abbrev pub work_left : Arena → List ℕ → List ℕ → ℕ
work_left G flags l = suc max_stock_places * total (rank_in l) (positions G) + total (λ z. get_or flags z 0) max_stock_places

-- part of a round over the flagged places, up to place x: it did something and less is left to do, or it did nothing and there is no flag so far
pub record Worked (G : Arena) (most : Bool) (safe x : ℕ) (did : Bool) (flags flags' l l' : List ℕ) : Type 0 where
  pub kept : (goal : ℕ) → KeptFor G most safe goal l → KeptFor G most safe goal l'
  pub rests : Flags flags → RestsUnflagged G most safe flags l → RestsUnflagged G most safe flags' l'
  pub flagged : Flags flags → Flags flags'
  pub less : did ≡ true → Flags flags → work_left G flags' l' < work_left G flags l
  pub quiet : did ≡ false → (flags' ≡ flags) × (l' ≡ l) × ((z : ℕ) → z < x → get_or flags z 0 ≡ 0)
  pub beyond : (n : ℕ) → positions G ≤ n → rank_in l' n ≡ rank_in l n
  pub long : length l' ≡ length l
