-- What ranks say, by the kind of a strategic row: who wins, where a move or a reply is aimed, and where the row has failed already.
use Rattle.std.specs.Prelude.{cond, ◌≡◌, ℕ, ◌<◌, eqb}
use Rattle.block.specs.Decide.{Bit}
use Rattle.block.specs.Layout as L
use Rattle.game.specs.Table.{never}
use Rattle.rankings.specs.declared.Goal.{Goal}
use Rattle.rankings.specs.declared.Goal.TheVariants.{Next, Always, Until}

-- the kind of a row with this goal
abbrev pub kind_of : Goal → ℕ
kind_of Next = L.next_kind
kind_of Always = L.always_kind
kind_of Until = L.until_kind

-- what stands for each strategic kind
abbrev pub by_strategy {ℓ} : {A : Type ℓ} → ℕ → A → A → A → A
by_strategy k next always until = cond (eqb k L.next_kind) next (cond (eqb k L.always_kind) always until)

-- a rank says that the coalition wins
abbrev pub ClaimsBy : ℕ → ℕ → Type 0
ClaimsBy k rank = by_strategy k (rank ≡ 1) (rank ≡ never) (rank < never)

-- until is met
abbrev pub MetBy : ℕ → ℕ → Type 0
MetBy k rank = by_strategy k ⊥ ⊥ (rank ≡ 0)

-- an outcome in state q with this rank is one at which the coalition aims, from a position of rank own; or its opponents. Left is the set of the left row
abbrev pub AimBy : ℕ → ℕ → ℕ → ℕ → ℕ → Type 0
AimBy k left own q rank = by_strategy k (Bit left q) (rank ≡ never) (rank < own)

abbrev pub CounterBy : ℕ → ℕ → ℕ → ℕ → ℕ → Type 0
CounterBy k left own q rank = by_strategy k (Bit left q → ⊥) (rank < own) (rank < never → ⊥)

-- the row has failed already in state q, at a position of rank own: there the reply is 0
abbrev pub FailedBy : ℕ → ℕ → ℕ → ℕ → ℕ → Type 0
FailedBy k left right own q = by_strategy k ⊥ (own ≡ 0) ((Bit left q → ⊥) × (Bit right q → ⊥))
