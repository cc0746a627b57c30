-- The table of parts: its rule at each entry, from one test over all of them. Assumes nothing.
use mathlib.Core.Bool.{Bool, true, false, cond}
use mathlib.Core.List.{List}
use mathlib.Core.Path.{◌≡◌, ◌∙◌, ap₂}
use Prim.Native.Nat.{ℕ, ◌+◌, ◌*◌, ◌/◌, ◌%◌, ◌^◌, ◌<◌}
use native.Mathlib.Omega.{arith}
use lib.Dec.{T, eqb}
use lib.ListN.{get_or}
use Rattle.block.specs.Layout.{digit}
use Rattle.game.specs.Rbatl.{Coalition}
use Rattle.game.specs.Position.{part}
use Rattle.game.specs.Inner.Parts.{part_of}
use Rattle.game.specs.Model.{bit}
use Rattle.parts.specs.Inner.Table.{PartsTable}
use Rattle.game.proofs.Numbers.Decide.{is_yes, from_yes, eq?, all_below}

-- the part that the entry with number k has to be
abbrev due : ℕ → ℕ
due k = part_of (bit (k / 64)) (k % 64)

-- the test: whether each entry is
unfoldable pub right? : (xs : List ℕ) → Dec ((k : ℕ) → k < 512 → get_or xs k 0 ≡ due k)
right? xs = all_below (λ k. get_or xs k 0 ≡ due k) 512 (λ k _. eq? (get_or xs k 0) (due k))

-- and what it says of each
pub tabled : (xs : List ℕ) → T (is_yes (right? xs)) → PartsTable xs
tabled xs right = record { entry = entry }
  where
    entry : (team m : ℕ) → team < 8 → m < 64 → get_or xs (64 * team + m) 0 ≡ part_of (bit team) m
    entry team m known small =
        let whose : (64 * team + m) / 64 ≡ team = omega arith in
        let which : (64 * team + m) % 64 ≡ m = omega arith in
        from_yes (right? xs) right (64 * team + m) (omega arith) ∙ ap₂ (λ (t j : ℕ). part_of (bit t) j) whose which

-- only the lowest digits of a team and of a joint action count
lowest : (team m a : ℕ) → team % 8 / 2 ^ a % 2 ≡ team / 2 ^ a % 2 → digit (m % 64) a ≡ digit m a → part (bit (team % 8)) (digit (m % 64)) a ≡ part (bit team) (digit m) a
lowest team m a = ap₂ (λ (x d : ℕ). cond (eqb x 1) d 0)

pub part_lowest : (team m : ℕ) → part_of (bit (team % 8)) (m % 64) ≡ part_of (bit team) m
part_lowest team m = omega (arith, lowest team m 0 (omega arith) (omega arith), lowest team m 1 (omega arith) (omega arith), lowest team m 2 (omega arith) (omega arith))

-- a part is the number of a joint action
pub cond_small : (t : Bool) (m a : ℕ) → cond t (digit m a) 0 < 4
cond_small true m a = omega arith
cond_small false m a = omega arith

pub part_small : (A : Coalition) (m : ℕ) → part_of A m < 64
part_small A m = omega (arith, cond_small (A 0) m 0, cond_small (A 1) m 1, cond_small (A 2) m 2)
