-- The rows of a block: what each kind of row says in terms of lower rows, and for a strategic row that it is true exactly
-- where the coalition wins: with its own bounds at full stock, with others at a position for whose stock they serve. Assumes nothing.
use mathlib.Core.Bool.{Bool, cond}
use mathlib.Core.Logic.{◌↔◌, inl, inr}
use mathlib.Core.Path.{◌≡◌, sym, ◌∙◌, ap, ap₂, subst₂}
use Prim.Native.Nat.{ℕ, zero, suc, ◌<◌}
use native.Mathlib.Decide.{ℕ_discrete}
use native.Mathlib.Omega.{arith}
use lib.Dec.{eqb}
use borrow.Author.Tests.{eq-eqb, ne_eqb}
use Rattle.block.specs.Layout as L
use Rattle.block.specs.Layout.{Block, Strategic}
use Rattle.block.specs.Inner.Valid.{RowFits}
use Rattle.game.specs.Rbatl as R
use Rattle.game.specs.Rbatl.{Bounds, Formula, Sat, Can}
use Rattle.game.specs.Position.{Position, IsPosition, full}
use Rattle.game.specs.Play as P
use Rattle.game.specs.Play.{Objective, True, CoalitionWins}
use Rattle.game.specs.Model.{structure_of, coalition_of, bounds_of, by_kind, formula_with, formulas_below, formula_of, RowTrue, RowTrueWith, arena_of, objective_of}
use Rattle.game.proofs.Bridge.Truth.{ServesFor, full_fits, full_serves, can_enforces}
use Rattle.game.proofs.Bridge.Proper.{Proper}

-- the formulas below row i are those of their own rows
pub below_formula : (b : Block) (i j : ℕ) → j < i → formulas_below b i j ≡ formula_of b j
below_formula b zero j l = absurd (omega arith)
below_formula b (suc i) j l = go (ℕ_discrete j i) (below_formula b i j)
  where
    go : Dec (j ≡ i) → (j < i → formulas_below b i j ≡ formula_of b j) → formulas_below b (suc i) j ≡ formula_of b j
    go (yes e) _ = ap (λ (t : Bool). cond t (formula_of b i) (formulas_below b i j)) (eq-eqb j i e) ∙ ap (formula_of b) (sym e)
    go (no e) lower = ap (λ (t : Bool). cond t (formula_of b i) (formulas_below b i j)) (ne_eqb j i e) ∙ lower (omega arith)

module _ (b : Block) (proper : Proper (structure_of b)) (i : ℕ) (row : RowFits b i) where
  -- the lower rows' formulas are their own
  left_formula : L.prop_kind < L.kind b i → formulas_below b i (L.left b i) ≡ formula_of b (L.left b i)
  left_formula strict = below_formula b i (L.left b i) (row.left_lower strict)

  right_formula : L.Binary (L.kind b i) → formulas_below b i (L.right b i) ≡ formula_of b (L.right b i)
  right_formula binary = below_formula b i (L.right b i) (row.right_lower binary)

  module _ (bounds : Bounds) where
    abbrev stands_for : ℕ → Formula
    stands_for k =
        let left = formulas_below b i (L.left b i) in
        let right = formulas_below b i (L.right b i) in
        let A = coalition_of b i in
        by_kind k
        (R.prop (L.left b i)) (R.not left) (R.or left right) (R.next A bounds left) (R.always A bounds left) (R.until A bounds left right)

    -- the formula of a strategic row, with its own bounds or others
    pub next_formula : L.kind b i ≡ L.next_kind → formula_with b i bounds (formulas_below b i) ≡ R.next (coalition_of b i) bounds (formula_of b (L.left b i))
    next_formula e = ap stands_for e ∙ ap (R.next (coalition_of b i) bounds) (left_formula (omega arith))

    pub always_formula : L.kind b i ≡ L.always_kind → formula_with b i bounds (formulas_below b i) ≡ R.always (coalition_of b i) bounds (formula_of b (L.left b i))
    always_formula e = ap stands_for e ∙ ap (R.always (coalition_of b i) bounds) (left_formula (omega arith))

    pub until_formula : L.kind b i ≡ L.until_kind → formula_with b i bounds (formulas_below b i) ≡ R.until (coalition_of b i) bounds (formula_of b (L.left b i)) (formula_of b (L.right b i))
    until_formula e = ap stands_for e ∙ ap₂ (R.until (coalition_of b i) bounds) (left_formula (omega arith)) (right_formula (inr e))

  -- and of a row of another kind
  pub prop_formula : L.kind b i ≡ L.prop_kind → formula_of b i ≡ R.prop (L.left b i)
  prop_formula e = ap (stands_for (bounds_of b i)) e

  pub not_formula : L.kind b i ≡ L.not_kind → formula_of b i ≡ R.not (formula_of b (L.left b i))
  not_formula e = ap (stands_for (bounds_of b i)) e ∙ ap R.not (left_formula (omega arith))

  pub or_formula : L.kind b i ≡ L.or_kind → formula_of b i ≡ R.or (formula_of b (L.left b i)) (formula_of b (L.right b i))
  or_formula e = ap (stands_for (bounds_of b i)) e ∙ ap₂ R.or (left_formula (omega arith)) (right_formula (inl e))

  -- what a strategic row asks of a play
  abbrev asks_for : ℕ → Objective
  asks_for k =
      let left = RowTrue b (L.left b i) in
      let right = RowTrue b (L.right b i) in
      cond (eqb k L.next_kind) (P.next left) (cond (eqb k L.always_kind) (P.always left) (P.until left right))

  pub next_objective : L.kind b i ≡ L.next_kind → objective_of b i ≡ P.next (RowTrue b (L.left b i))
  next_objective e = ap asks_for e

  pub always_objective : L.kind b i ≡ L.always_kind → objective_of b i ≡ P.always (RowTrue b (L.left b i))
  always_objective e = ap asks_for e

  pub until_objective : L.kind b i ≡ L.until_kind → objective_of b i ≡ P.until (RowTrue b (L.left b i)) (RowTrue b (L.right b i))
  until_objective e = ap asks_for e

  -- a strategic row with bounds that serve for a position's stock is true exactly where the coalition wins there
  module _ (strategic : Strategic (L.kind b i)) where
    pub with_wins : (p : Position) → IsPosition (arena_of b i) p → (bounds : Bounds) → ServesFor (arena_of b i) p bounds → RowTrueWith b i bounds p.state ↔ CoalitionWins (arena_of b i) (objective_of b i) p
    with_wins p fits bounds serves = go (ℕ_discrete (L.kind b i) L.next_kind) (ℕ_discrete (L.kind b i) L.always_kind)
      where
        wins : (φ : Formula) (t : Objective) → formula_with b i bounds (formulas_below b i) ≡ φ → objective_of b i ≡ t
            → (Sat (structure_of b) φ p.state ↔ CoalitionWins (arena_of b i) t p)
            → RowTrueWith b i bounds p.state ↔ CoalitionWins (arena_of b i) (objective_of b i) p
        wins φ t formula objective = subst₂ (λ (φ : Formula) (t : Objective). Sat (structure_of b) φ p.state ↔ CoalitionWins (arena_of b i) t p) (sym formula) (sym objective)

        at : (t : Objective) → Can (structure_of b) (coalition_of b i) bounds (True t) p.state ↔ CoalitionWins (arena_of b i) t p
        at t = can_enforces (arena_of b i) proper (True t) p fits bounds serves

        go : Dec (L.kind b i ≡ L.next_kind) → Dec (L.kind b i ≡ L.always_kind) → RowTrueWith b i bounds p.state ↔ CoalitionWins (arena_of b i) (objective_of b i) p
        go (yes e) _ = wins _ _ (next_formula bounds e) (next_objective e) (at (P.next (RowTrue b (L.left b i))))
        go (no _) (yes e) = wins _ _ (always_formula bounds e) (always_objective e) (at (P.always (RowTrue b (L.left b i))))
        go (no ne) (no na) =
            let e : L.kind b i ≡ L.until_kind = omega arith in
            wins _ _ (until_formula bounds e) (until_objective e) (at (P.until (RowTrue b (L.left b i)) (RowTrue b (L.right b i))))

    -- and with its own bounds at full stock
    pub row_wins : (q : ℕ) → q < L.states b → RowTrue b i q ↔ CoalitionWins (arena_of b i) (objective_of b i) (full (arena_of b i) q)
    row_wins q l = with_wins (full (arena_of b i) q) (full_fits (arena_of b i) q l) (bounds_of b i) (full_serves (arena_of b i) q)
