-- Searches over the numbers below n, at a closure of which each answer tells something. Assumes nothing.
use mathlib.Core.Bool.{Bool, true, false}
use mathlib.Core.Path.{◌≡◌}
use Prim.Native.Nat.{ℕ, ◌<◌}
use denote.Param.Members.{Mut}
use Rattle.std.proofs.iter.Yields.{nat_range_steps}
use Rattle.std.specs.Fn.{Called}
use Rattle.std.specs.Iterator.{ChecksAny, ChecksAll}
use Rattle.std.specs.declared.ops.Range.{Range}
use Rattle.block.specs.Decide.{Some}
use Rattle.block.specs.Inner.Tests.{Decides, holds, fails}
use Rattle.block.proofs.Chains.{Tells, Says, any_below, all_below}

module _ {F : Type 0} {g : Mut F (ℕ × Unit {0}) Bool} {f : F} {n : ℕ} {P : ℕ → Type 0} (is : (x : ℕ) (q : F) → x < n → Called g f (x, tt) true q → (q ≡ f) × P x)
    (isnt : (x : ℕ) (q : F) → x < n → Called g f (x, tt) false q → (q ≡ f) × (P x → ⊥)) where
  tells : Tells (Says g) f n P
  tells x true q small call = let told = is x q small call in (told.0, holds told.1)
  tells x false q small call = let told = isnt x q small call in (told.0, fails told.1)

  module _ {s u : Range ℕ} {r : Bool} where
    pub any_told : ChecksAny nat_range_steps g s f r u → s.start ≡ 0 → s.end ≡ n → Decides (Some n P) r
    any_told = any_below tells

    pub all_told : ChecksAll nat_range_steps g s f r u → s.start ≡ 0 → s.end ≡ n → Decides ((x : ℕ) → x < n → P x) r
    all_told = all_below tells
