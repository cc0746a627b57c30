-- What the allowances call promises (document 02, R-4): the smallest bounds with which a state satisfies a row. All of it is about truth: of the
-- row's formula with other bounds, over the same lower rows. Put into the job, they make the same row true (game, `put_in`).
use Rattle.std.specs.Prelude.{List, ◌∷◌, ◌≡◌, ℕ, suc, ◌+◌, ◌*◌, ◌≤◌, ◌<◌, get_or, length}
use Rattle.block.specs.Decide.{Some}
use Rattle.block.specs.Layout as L
use Rattle.block.specs.Layout.{Block}
use Rattle.block.specs.Refusal.{Rule, ◌when◌, Answers, Kept, RoomAfter}
use Rattle.block.specs.declared.refusal.Refusal.TheVariants.{Length}
use Rattle.block.specs.Refusal.{Answer}
use Rattle.game.specs.Model.{bounds_by, RowTrueWith}
use Rattle.turns.specs.Sizes.{room_bytes}
use Rattle.admission.specs.Admission.{state_rules}

-- a number for each resource, as a row's bound has it
abbrev pub Allowance : Type 0
Allowance = ℕ → ℕ

-- the numbers of resource j: 0 to 15 where row i limits it, whatever its own bound is; an unlimited one stays so, and 0 stands for an absent one
pub data Shows (b : Block) (i j n : ℕ) : Type 0 where
  limited : j < L.resources b → (L.bound b i j ≡ L.unlimited → ⊥) → n ≤ L.max_units → Shows b i j n
  unlimited : j < L.resources b → L.bound b i j ≡ L.unlimited → n ≡ L.unlimited → Shows b i j n
  absent : L.resources b ≤ j → n ≡ 0 → Shows b i j n

-- with x for its bounds row i is true in state q
abbrev pub Suffices : Block → ℕ → ℕ → Allowance → Type 0
Suffices b i q x = ((j : ℕ) → j < L.max_resources → Shows b i j (x j)) × RowTrueWith b i (bounds_by b x) q

abbrev pub NowhereLarger : Allowance → Allowance → Type 0
NowhereLarger x y = (j : ℕ) → j < L.max_resources → x j ≤ y j

abbrev pub Same : Allowance → Allowance → Type 0
Same x y = (j : ℕ) → j < L.max_resources → x j ≡ y j

-- x suffices, and no other that is nowhere larger does
abbrev pub Smallest : Block → ℕ → ℕ → Allowance → Type 0
Smallest b i q x = Suffices b i q x × ((y : Allowance) → NowhereLarger y x → (Same y x → ⊥) → Suffices b i q y → ⊥)

-- a list of allowances, a byte for each resource, has room for 16
abbrev pub max_allowances : ℕ
max_allowances = suc L.max_units

abbrev pub allowances_bytes : ℕ
allowances_bytes = L.max_resources * max_allowances

-- the k-th of a list
abbrev pub allowance_in : List ℕ → ℕ → Allowance
allowance_in list k j = get_or list (L.max_resources * k + j) 0

-- the first n of the list are the smallest allowances, each of them once, in rising first number; zeros stand after them. Whatever suffices is
-- nowhere smaller than one of them, so that where there is none nothing suffices
pub record AllowancesIn (b : Block) (i q : ℕ) (list : List ℕ) (n : ℕ) : Type 0 where
  pub each : (k : ℕ) → k < n → Smallest b i q (allowance_in list k)
  pub rising : (j k : ℕ) → j < k → k < n → allowance_in list j 0 < allowance_in list k 0
  pub all : (x : Allowance) → Smallest b i q x → Some n (λ k. Same (allowance_in list k) x)
  pub enough : (x : Allowance) → Suffices b i q x → Some n (λ k. NowhereLarger (allowance_in list k) x)
  pub past : (p : ℕ) → L.max_resources * n ≤ p → get_or list p 0 ≡ 0
  pub fits : n ≤ max_allowances
  pub long : length list ≡ allowances_bytes

-- a list or a room that has not its length, then the block, the row and the state
abbrev pub allowances_rules : Block → ℕ → ℕ → ℕ → ℕ → List Rule
allowances_rules b i q list room =
    Length when (list ≡ allowances_bytes → ⊥)
    ∷ Length when (room ≡ room_bytes → ⊥)
    ∷ state_rules b i q

-- list and room, before the call and after it
pub record AllowancesCall (b : Block) (i q : ℕ) (list room list' room' : List ℕ) (a : Answer) : Type 0 where
  pub answer : Answers (allowances_rules b i q (length list) (length room)) (AllowancesIn b i q list') a
  pub kept : Kept list list' a
  pub room_after : RoomAfter room room' a
