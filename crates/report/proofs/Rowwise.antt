-- The lines of a row, from its set and its table (specs' RowListed). Assumes nothing.
use mathlib.Core.Bool.{Bool, cond}
use mathlib.Core.List.{[], ◌++◌, append-nil}
use mathlib.Core.Path.{sym, ap, ◌∙◌}
use Prim.Native.Nat.{ℕ, ◌≤◌, ◌<◌}
use borrow.Author.Tests.{lt-ltb, le-ltb}
use native.Mathlib.Omega.{arith}
use Rattle.block.specs.Decide.{Bit}
use Rattle.block.specs.Layout as L
use Rattle.block.specs.Layout.{Block}
use Rattle.game.specs.Table.{Table}
use Rattle.game.specs.Model.{RowSet}
use Rattle.game.specs.Demand.{TableOf}
use Rattle.printing.specs.Lines.{set_line}
use Rattle.report.specs.Listing.{plan_lines, RowListed}

module _ (b : Block) (i w : ℕ) (told : RowSet b i w) where
  pub set_inside : (s : ℕ) → Bit w s → s < L.states b
  set_inside s one = ((told.1 s).0 one).0

  -- a row of kind prop, not or or
  pub plain_listed : L.kind b i < L.next_kind → RowListed b i (set_line i w)
  plain_listed low = record {
    set = w;
    is_set = told;
    table = X;
    is_table = λ strategic. absurd (omega (arith, strategic.0));
    bytes = sym (ap (λ (t : Bool). set_line i w ++ cond t [] (plan_lines b i w X)) (lt-ltb (L.kind b i) L.next_kind low) ∙ append-nil (set_line i w));
  }
    where
      X : Table
      X = record { rank = λ n. 0; move = λ n. 0 }

  pub strategic_listed : (X : Table) → L.next_kind ≤ L.kind b i → TableOf b i X → RowListed b i (set_line i w ++ plan_lines b i w X)
  strategic_listed X high decided = record {
    set = w;
    is_set = told;
    table = X;
    is_table = λ _. decided;
    bytes = sym (ap (λ (t : Bool). set_line i w ++ cond t [] (plan_lines b i w X)) (le-ltb (L.kind b i) L.next_kind high));
  }
