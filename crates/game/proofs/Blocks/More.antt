-- A strategic row that is true with some bounds is true with larger ones: more is never worse. Assumes nothing.
use mathlib.Core.Path.{◌≡◌, sym, subst}
use Prim.Native.Nat.{ℕ, ◌<◌}
use native.Mathlib.Decide.{ℕ_discrete}
use native.Mathlib.Omega.{arith}
use Rattle.block.specs.Layout as L
use Rattle.block.specs.Layout.{Block, Strategic}
use Rattle.block.specs.Inner.Valid.{RowFits}
use Rattle.game.specs.Rbatl.{Bounds, Formula, Sat, NextOn, AlwaysOn, UntilOn}
use Rattle.game.specs.Model.{structure_of, coalition_of, formulas_below, formula_with, RowTrue, RowTrueWith}
use Rattle.game.proofs.Bridge.Proper.{Proper}
use Rattle.game.proofs.Bridge.More.{AtMost, can_more}
use Rattle.game.proofs.Blocks.Formulas.{next_formula, always_formula, until_formula}

module _ (b : Block) (proper : Proper (structure_of b)) (i : ℕ) (row : RowFits b i) (strategic : Strategic (L.kind b i)) (bounds bounds' : Bounds) (less : (r : ℕ) → r < L.resources b → AtMost (bounds r) (bounds' r)) (q : ℕ) where
  pub with_more : RowTrueWith b i bounds q → RowTrueWith b i bounds' q
  with_more = go (ℕ_discrete (L.kind b i) L.next_kind) (ℕ_discrete (L.kind b i) L.always_kind)
    where
      between : (φ φ' : Formula) → formula_with b i bounds (formulas_below b i) ≡ φ → formula_with b i bounds' (formulas_below b i) ≡ φ' → (Sat (structure_of b) φ q → Sat (structure_of b) φ' q)
          → RowTrueWith b i bounds q → RowTrueWith b i bounds' q
      between φ φ' is is' to sat = subst (λ (ψ : Formula). Sat (structure_of b) ψ q) (sym is') (to (subst (λ (ψ : Formula). Sat (structure_of b) ψ q) is sat))

      left : ℕ → Type 0
      left = RowTrue b (L.left b i)

      right : ℕ → Type 0
      right = RowTrue b (L.right b i)

      go : Dec (L.kind b i ≡ L.next_kind) → Dec (L.kind b i ≡ L.always_kind) → RowTrueWith b i bounds q → RowTrueWith b i bounds' q
      go (yes e) _ = between _ _ (next_formula b proper i row bounds e) (next_formula b proper i row bounds' e) (can_more (structure_of b) (coalition_of b i) bounds bounds' less (NextOn left) q)
      go (no _) (yes e) = between _ _ (always_formula b proper i row bounds e) (always_formula b proper i row bounds' e) (can_more (structure_of b) (coalition_of b i) bounds bounds' less (AlwaysOn left) q)
      go (no ne) (no na) =
          let e : L.kind b i ≡ L.until_kind = omega arith in
          between _ _ (until_formula b proper i row bounds e) (until_formula b proper i row bounds' e) (can_more (structure_of b) (coalition_of b i) bounds bounds' less (UntilOn left right) q)
