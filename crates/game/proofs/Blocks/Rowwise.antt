-- Row by row, every block that passes: each row is decided in each state, and each strategic row has a table with the facts, so that
-- demand 3 holds at every position. Assumes nothing.
use mathlib.Core.Logic.{◌↔◌, inl, inr}
use mathlib.Core.Path.{◌≡◌, sym, subst}
use Prim.Native.Nat.{ℕ, zero, suc, ◌<◌}
use native.Mathlib.Omega.{arith}
use Rattle.block.specs.Layout as L
use Rattle.block.specs.Layout.{Block, Strategic}
use Rattle.block.specs.Inner.Valid.{Valid}
use Rattle.block.proofs.Passing.{passing}
use Rattle.game.specs.Rbatl.{Formula, Sat}
use Rattle.game.specs.Position.{full}
use Rattle.game.specs.Play.{Objective}
use Rattle.game.specs.Table.{Table}
use Rattle.game.specs.Inner.Facts.{RowsDecided, Facts}
use Rattle.game.specs.Model.{bit, structure_of, formula_of, RowTrue, arena_of, objective_of}
use Rattle.game.specs.Demand.{TableOf, Demand3}
use Rattle.game.proofs.Numbers.Decide.{by_test, either?, eq?, not?}
use Rattle.game.proofs.Blocks.Passing.{valid_proper, few_positions}
use Rattle.game.proofs.Local.Decidable.{claims?}
use Rattle.game.proofs.Blocks.Formulas.{prop_formula, not_formula, or_formula, next_objective, always_objective, until_objective}
use Rattle.game.proofs.Blocks.Tables.{table_decided, table_set}
use Rattle.game.proofs.Solving.Determined.{solved_table, solved_facts}
use Rattle.game.proofs.Whole.Demand.{demanded}

decided_by : {P Q : Type 0} → P ↔ Q → Dec Q → Dec P
decided_by e (yes q) = yes (e.1 q)
decided_by e (no fails) = no (λ p. fails (e.0 p))

module _ (b : Block) (valid : Valid b) where
  module _ (i : ℕ) (inside : i < L.rows b) (lower : (j : ℕ) → j < i → (q : ℕ) → q < L.states b → Dec (RowTrue b j q)) where
    left_decided : L.prop_kind < L.kind b i → (q : ℕ) → q < L.states b → Dec (RowTrue b (L.left b i) q)
    left_decided h = lower (L.left b i) ((valid.row_fits i inside).left_lower h)

    right_decided : L.Binary (L.kind b i) → (q : ℕ) → q < L.states b → Dec (RowTrue b (L.right b i) q)
    right_decided h = lower (L.right b i) ((valid.row_fits i inside).right_lower h)

    strategic_rows : Strategic (L.kind b i) → RowsDecided (arena_of b i) (objective_of b i)
    strategic_rows strategic = go (eq? (L.kind b i) L.next_kind) (eq? (L.kind b i) L.always_kind)
      where
        told : (t : Objective) → objective_of b i ≡ t → RowsDecided (arena_of b i) t → RowsDecided (arena_of b i) (objective_of b i)
        told t e = subst (RowsDecided (arena_of b i)) (sym e)

        go : Dec (L.kind b i ≡ L.next_kind) → Dec (L.kind b i ≡ L.always_kind) → RowsDecided (arena_of b i) (objective_of b i)
        go (yes e) _ = told _ (next_objective b (valid_proper b valid) i (valid.row_fits i inside) e) (left_decided (omega arith))
        go (no _) (yes e) = told _ (always_objective b (valid_proper b valid) i (valid.row_fits i inside) e) (left_decided (omega arith))
        go (no ne) (no na) =
            let e : L.kind b i ≡ L.until_kind = omega arith in
            told _ (until_objective b (valid_proper b valid) i (valid.row_fits i inside) e) (left_decided (omega arith), right_decided (inr e))

    strategic_table : Strategic (L.kind b i) → (X : Table) × Facts (arena_of b i) X (objective_of b i)
    strategic_table strategic =
        let G = arena_of b i in
        let proper = valid_proper b valid in
        let few = few_positions b valid i inside strategic in
        (solved_table G proper (objective_of b i) (strategic_rows strategic), solved_facts G proper (omega arith) (objective_of b i) (strategic_rows strategic))

    this_row : (q : ℕ) → q < L.states b → Dec (RowTrue b i q)
    this_row q l = go (eq? (L.kind b i) L.prop_kind) (eq? (L.kind b i) L.not_kind) (eq? (L.kind b i) L.or_kind)
      where
        told : (φ : Formula) → formula_of b i ≡ φ → Dec (Sat (structure_of b) φ q) → Dec (RowTrue b i q)
        told φ e = subst (λ (ψ : Formula). Dec (Sat (structure_of b) ψ q)) (sym e)

        go : Dec (L.kind b i ≡ L.prop_kind) → Dec (L.kind b i ≡ L.not_kind) → Dec (L.kind b i ≡ L.or_kind) → Dec (RowTrue b i q)
        go (yes e) _ _ = told _ (prop_formula b (valid_proper b valid) i (valid.row_fits i inside) e) (by_test (bit (L.mask b q) (L.left b i)) (λ h. h) (λ h. h))
        go (no _) (yes e) _ = told _ (not_formula b (valid_proper b valid) i (valid.row_fits i inside) e) (not? (left_decided (omega arith) q l))
        go (no _) (no _) (yes e) = told _ (or_formula b (valid_proper b valid) i (valid.row_fits i inside) e) (either? (left_decided (omega arith) q l) (λ _. right_decided (inl e) q l))
        go (no np) (no nn) (no no') =
            let strategic : Strategic (L.kind b i) = (omega arith, (valid.row_fits i inside).known) in
            let (X, facts) = strategic_table strategic in
            decided_by (table_set b valid i X facts inside strategic q l) (claims? (arena_of b i) X (objective_of b i) (full (arena_of b i) q))

  rows_below : (n i : ℕ) → i < n → i < L.rows b → (q : ℕ) → q < L.states b → Dec (RowTrue b i q)
  rows_below zero i l inside = absurd (omega arith)
  rows_below (suc n) i l inside = this_row i inside (λ j h. rows_below n j (omega arith) (omega arith))

  -- truth in document 003 is decidable
  pub row_decidable : (i : ℕ) → i < L.rows b → (q : ℕ) → q < L.states b → Dec (RowTrue b i q)
  row_decidable i inside = rows_below (suc i) i (omega arith) inside

  -- every strategic row has a table that is decided at every position
  pub row_determined : (i : ℕ) → i < L.rows b → Strategic (L.kind b i) → (X : Table) × TableOf b i X
  row_determined i inside strategic =
      let (X, facts) = strategic_table i inside (λ j h. row_decidable j (omega arith)) strategic in
      (X, table_decided b valid i X facts)

pub row_demanded : (b : Block) (i : ℕ) → Demand3 b i
row_demanded b i passed inside strategic =
    let (X, decided) = row_determined b (passing passed) i inside strategic in
    demanded (arena_of b i) (valid_proper b (passing passed)) (objective_of b i) X decided
