-- A block in which no action charges: its structure is uncharged, so that each row's truth is document 003's own. Assumes nothing.
use mathlib.Core.Bool.{Bool, cond}
use mathlib.Core.Logic.{◌↔◌}
use mathlib.Core.Path.{◌≡◌, ap}
use Prim.Native.Nat.{ℕ, ◌-◌, ◌<◌}
use native.Mathlib.Decide.{dec_lt}
use native.Mathlib.Omega.{arith}
use borrow.Author.Tests.{lt-ltb}
use Rattle.block.specs.Decide.{Some}
use Rattle.block.specs.Check.{ChargesOn}
use Rattle.block.specs.Layout as L
use Rattle.block.specs.Layout.{Block}
use Rattle.block.specs.Inner.Valid.{Valid}
use Rattle.game.specs.Rbatl.{Uncharged, SpendingSat}
use Rattle.game.specs.Model.{structure_of, formula_of, RowTrue}
use Rattle.game.proofs.Bridge.Uncharged.{uncharged_sat}
use Rattle.game.proofs.Blocks.Passing.{valid_proper}

module _ (b : Block) (valid : Valid b) (none : Some (L.states b) (ChargesOn L.sum_kind b) → ⊥) where
  pub uncharged : Uncharged (structure_of b)
  uncharged q a k r l la lk lr = go (dec_lt (L.cost b q a k r) L.charge_byte)
    where
      go : Dec (L.cost b q a k r < L.charge_byte) → L.given (L.cost b q a k r) ≡ 0
      go (yes small) = ap (λ (t : Bool). cond t 0 (L.byte_values - L.cost b q a k r)) (lt-ltb (L.cost b q a k r) L.charge_byte small)
      go (no high) =
          let max : L.resource_kind b r ≡ L.max_kind → ⊥ = valid.charge_sums q a k r l la lk lr (omega arith) in
          let sum : L.resource_kind b r ≡ L.sum_kind → ⊥ = λ e. none (q, l, (a, la, (k, lk, (r, lr, (e, omega arith))))) in
          absurd (sum (only_two max))
        where
          only_two : (L.resource_kind b r ≡ L.max_kind → ⊥) → L.resource_kind b r ≡ L.sum_kind
          only_two other = omega (arith, valid.sized.kinds_fit r lr, other)

  pub as_003 : (i q : ℕ) → q < L.states b → RowTrue b i q ↔ SpendingSat (structure_of b) (formula_of b i) q
  as_003 i q l = uncharged_sat (valid_proper b valid) uncharged (formula_of b i) q l
