-- The lines of one row after another (specs' RowsListed), and the whole listing. Assumes nothing.
use mathlib.Core.List.{List, [], ◌++◌, append_assoc, append-nil}
use mathlib.Core.Path.{◌≡◌, sym, ap, subst, ◌∙◌}
use Prim.Native.Nat.{ℕ, ◌+◌, ◌*◌, ◌≤◌}
use native.Mathlib.Omega.{arith}
use Rattle.block.specs.Layout as L
use Rattle.block.specs.Layout.{Block}
use Rattle.text.specs.declared.output.Output.{Output}
use Rattle.text.specs.Inner.Adding.{front, Adds}
use Rattle.text.proofs.Adding.{added_front}
use Rattle.printing.specs.Lines.{list_line}
use Rattle.report.specs.Listing.{RowListed, RowsListed, none, next, Listed}

-- the first line and the lines of i rows are written
pub record Rowed (b : Block) (u : Output) (i : ℕ) : Type 0 where
  pub lines : List ℕ
  pub rows : RowsListed b i lines
  pub so : front u ≡ list_line (L.rows b) ++ lines
  pub near : u.len ≤ 14 + i * 1015

module _ (b : Block) (u : Output) where
  pub rowed_none : (t : Output) → t.len ≡ 0 → Adds (list_line (L.rows b)) t u → u.len ≤ t.len + 14 → Rowed b u 0
  rowed_none t empty added short = record {
    lines = [];
    rows = none;
    so = (rw empty at (added_front (list_line (L.rows b)) t u added)) ∙ sym (append-nil (list_line (L.rows b)));
    near = omega arith;
  }

  module _ (i : ℕ) (r : Rowed b u i) where
    pub rowed_next : (lines : List ℕ) (v : Output) → RowListed b i lines → Adds lines u v → v.len ≤ u.len + 1015 → Rowed b v (i + 1)
    rowed_next lines v listed added short = record {
      lines = r.lines ++ lines;
      rows = next r.rows listed;
      so = added_front lines u v added ∙ ap (λ (l : List ℕ). l ++ lines) r.so ∙ append_assoc (list_line (L.rows b)) r.lines lines;
      near = omega (arith, r.near);
    }

    pub rowed_all : i ≡ L.rows b → Listed b (front u)
    rowed_all e = (r.lines, (subst (λ (n : ℕ). RowsListed b n r.lines) e r.rows, r.so))
