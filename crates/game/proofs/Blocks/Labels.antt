-- A row's set from the sets of lower rows: directly for prop, not and or, and from a table with the local facts for next, always and
-- until. Assumes nothing.
use mathlib.Core.Bool.{Bool, true, false, cond}
use mathlib.Core.Logic.{◌⊎◌, ◌↔◌, inl, inr}
use mathlib.Core.Path.{◌≡◌, sym, subst}
use Prim.Native.Nat.{ℕ, ◌/◌, ◌%◌, ◌^◌, ◌≤◌, ◌<◌}
use native.Mathlib.Nat.{div-eq_of_lt, pow-le-pow_right}
use native.Mathlib.Omega.{arith}
use lib.Dec.{T, eqb}
use Rattle.block.specs.Decide.{Bit}
use Rattle.block.specs.Layout as L
use Rattle.block.specs.Layout.{Block, Strategic}
use Rattle.block.specs.Inner.Valid.{RowFits}
use Rattle.game.specs.Rbatl.{Formula, Sat}
use Rattle.game.specs.Position.{full}
use Rattle.game.specs.Play.{next, always, until}
use Rattle.game.specs.Table.{Table}
use Rattle.game.specs.Inner.Facts.{RowsDecided, Claims, Facts}
use Rattle.game.specs.Model.{bit, structure_of, RowTrue, RowSet, arena_of, objective_of}
use Rattle.game.specs.Inner.Words.{Says}
use Rattle.game.proofs.Numbers.Decide.{all_below, both?, by_test, either?, eq?, from_yes, implies?, is_yes, lt?, not?}
use Rattle.game.proofs.Bridge.Proper.{Proper}
use Rattle.game.proofs.Local.Decidable.{claims?}
use Rattle.game.proofs.Blocks.Formulas.{prop_formula, not_formula, or_formula, row_wins}
use Rattle.game.proofs.Bridge.Truth.{full_fits}
use Rattle.game.proofs.Whole.Decided.{claims_win, wins_claimed}

abbrev pub says? : (b : Block) (w : ℕ) (Q : ℕ → Type 0) → ((s : ℕ) → s < L.states b → Dec (Q s)) → Dec (Says b w Q)
says? b w Q Q? =
    both? (lt? w (2 ^ 32)) λ _.
    both? (lt? w (2 ^ L.states b)) λ _.
    all_below (λ s. (Bit w s → Q s) × (Q s → Bit w s)) (L.states b) λ s l.
    both? (implies? (eq? (w / 2 ^ s % 2) 1) (λ _. Q? s l)) (λ _. implies? (Q? s l) (λ _. eq? (w / 2 ^ s % 2) 1))

no_bit : (n w s : ℕ) → w < 2 ^ n → n ≤ s → Bit w s → ⊥
no_bit n w s l h set =
    let larger : 2 ^ n ≤ 2 ^ s = pow-le-pow_right {n = 2} (omega arith) h in
    let none : w / 2 ^ s ≡ 0 = div-eq_of_lt (omega arith) in
    omega arith

pub says_set : (b : Block) (i w : ℕ) (Q : ℕ → Type 0) → ((q : ℕ) → q < L.states b → Q q ↔ RowTrue b i q) → Says b w Q → RowSet b i w
says_set b i w Q tells (word, (few, says)) = (word, λ s. (λ set. go s set (lt? s (L.states b)), λ (l, h). (says s l).1 ((tells s l).1 h)))
  where
    go : (s : ℕ) → Bit w s → Dec (s < L.states b) → (s < L.states b) × RowTrue b i s
    go s set (yes l) = (l, (tells s l).0 ((says s l).0 set))
    go s set (no h) = absurd (no_bit (L.states b) w s few (omega arith) set)

-- the set of a lower row tells its truth
pub set_tells : (b : Block) (i w : ℕ) → RowSet b i w → (q : ℕ) → q < L.states b → Bit w q ↔ RowTrue b i q
set_tells b i w set q l = ((λ h. ((set.1 q).0 h).1), λ h. (set.1 q).1 (l, h))

-- a row whose set is known is decided in every state
abbrev pub decided_by_set : (b : Block) (i w : ℕ) → RowSet b i w → (q : ℕ) → q < L.states b → Dec (RowTrue b i q)
decided_by_set b i w set q l = elim (eq? (w / 2 ^ q % 2) 1) [ yes h ↦ yes ((set_tells b i w set q l).0 h) | no fails ↦ no (λ h. fails ((set_tells b i w set q l).1 h)) ]

abbrev pub decided_by_sets : (b : Block) (i w₁ w₂ : ℕ) → RowSet b (L.left b i) w₁ → RowSet b (L.right b i) w₂ → RowsDecided (arena_of b i) (objective_of b i)
decided_by_sets b i w₁ w₂ left right = go (eqb (L.kind b i) L.next_kind) (eqb (L.kind b i) L.always_kind)
  where
    go : (t u : Bool) → RowsDecided (arena_of b i) (cond t (next (RowTrue b (L.left b i))) (cond u (always (RowTrue b (L.left b i))) (until (RowTrue b (L.left b i)) (RowTrue b (L.right b i)))))
    go true u = decided_by_set b (L.left b i) w₁ left
    go false true = decided_by_set b (L.left b i) w₁ left
    go false false = (decided_by_set b (L.left b i) w₁ left, decided_by_set b (L.right b i) w₂ right)

module _ (b : Block) (proper : Proper (structure_of b)) (i : ℕ) where
  module _ (row : RowFits b i) where
    -- prop, not and or
    pub prop_set : (w : ℕ) → L.kind b i ≡ L.prop_kind → Says b w (λ s. T (bit (L.mask b s) (L.left b i))) → RowSet b i w
    prop_set w e = says_set b i w _ λ q _. told q
      where
        told : (q : ℕ) → T (bit (L.mask b q) (L.left b i)) ↔ RowTrue b i q
        told q = subst (λ (φ : Formula). T (bit (L.mask b q) (L.left b i)) ↔ Sat (structure_of b) φ q) (sym (prop_formula b proper i row e)) ((λ h. h), λ h. h)

    pub not_set : (w w₁ : ℕ) → L.kind b i ≡ L.not_kind → RowSet b (L.left b i) w₁ → Says b w (λ s. Bit w₁ s → ⊥) → RowSet b i w
    not_set w w₁ e left = says_set b i w (λ s. Bit w₁ s → ⊥) told
      where
        told : (q : ℕ) → q < L.states b → (Bit w₁ q → ⊥) ↔ RowTrue b i q
        told q l =
            let lower = set_tells b (L.left b i) w₁ left q l in
            subst (λ (φ : Formula). (Bit w₁ q → ⊥) ↔ Sat (structure_of b) φ q) (sym (not_formula b proper i row e))
            ((λ fails h. fails (lower.1 h)), λ fails set. fails (lower.0 set))

    pub or_set : (w w₁ w₂ : ℕ) → L.kind b i ≡ L.or_kind → RowSet b (L.left b i) w₁ → RowSet b (L.right b i) w₂ → Says b w (λ s. Bit w₁ s ⊎ Bit w₂ s) → RowSet b i w
    or_set w w₁ w₂ e left right = says_set b i w (λ s. Bit w₁ s ⊎ Bit w₂ s) told
      where
        told : (q : ℕ) → q < L.states b → (Bit w₁ q ⊎ Bit w₂ q) ↔ RowTrue b i q
        told q l =
            let lower = set_tells b (L.left b i) w₁ left q l in
            let lower' = set_tells b (L.right b i) w₂ right q l in
            subst (λ (φ : Formula). (Bit w₁ q ⊎ Bit w₂ q) ↔ Sat (structure_of b) φ q) (sym (or_formula b proper i row e))
            ((elim [ inl h ↦ inl (lower.0 h) | inr h ↦ inr (lower'.0 h) ]), (elim [ inl h ↦ inl (lower.1 h) | inr h ↦ inr (lower'.1 h) ]))

    -- next, always and until: what the table claims at full stock
    pub table_says_set : (w : ℕ) (X : Table) → Strategic (L.kind b i) → Facts (arena_of b i) X (objective_of b i) → Says b w (λ s. Claims (arena_of b i) X (objective_of b i) (full (arena_of b i) s)) → RowSet b i w
    table_says_set w X strategic facts = says_set b i w _ λ q l.
        let G = arena_of b i in
        let t = objective_of b i in
        let fits = full_fits G q l in
        let wins = row_wins b proper i row strategic q l in
        ((λ claim. wins.1 (claims_win G proper X t facts (full G q) fits claim)), λ h. wins_claimed G proper X t facts (full G q) fits (wins.0 h))

    -- the same with the word tested by computation
    abbrev pub prop? : (w : ℕ) → Dec (Says b w (λ s. T (bit (L.mask b s) (L.left b i))))
    prop? w = says? b w (λ s. T (bit (L.mask b s) (L.left b i))) (λ s _. by_test (bit (L.mask b s) (L.left b i)) (λ h. h) (λ h. h))

    pub prop_row : (w : ℕ) → L.kind b i ≡ L.prop_kind → T (is_yes (prop? w)) → RowSet b i w
    prop_row w e passes = prop_set w e (from_yes (prop? w) passes)

    abbrev pub not_says? : (w w₁ : ℕ) → Dec (Says b w (λ s. Bit w₁ s → ⊥))
    not_says? w w₁ = says? b w (λ s. Bit w₁ s → ⊥) (λ s _. not? (eq? (w₁ / 2 ^ s % 2) 1))

    pub not_row : (w w₁ : ℕ) → L.kind b i ≡ L.not_kind → RowSet b (L.left b i) w₁ → T (is_yes (not_says? w w₁)) → RowSet b i w
    not_row w w₁ e left passes = not_set w w₁ e left (from_yes (not_says? w w₁) passes)

    abbrev pub or? : (w w₁ w₂ : ℕ) → Dec (Says b w (λ s. Bit w₁ s ⊎ Bit w₂ s))
    or? w w₁ w₂ = says? b w (λ s. Bit w₁ s ⊎ Bit w₂ s) (λ s _. either? (eq? (w₁ / 2 ^ s % 2) 1) (λ _. eq? (w₂ / 2 ^ s % 2) 1))

    pub or_row : (w w₁ w₂ : ℕ) → L.kind b i ≡ L.or_kind → RowSet b (L.left b i) w₁ → RowSet b (L.right b i) w₂ → T (is_yes (or? w w₁ w₂)) → RowSet b i w
    or_row w w₁ w₂ e left right passes = or_set w w₁ w₂ e left right (from_yes (or? w w₁ w₂) passes)

    abbrev pub claimed? : (w : ℕ) (X : Table) → Dec (Says b w (λ s. Claims (arena_of b i) X (objective_of b i) (full (arena_of b i) s)))
    claimed? w X = says? b w (λ s. Claims (arena_of b i) X (objective_of b i) (full (arena_of b i) s)) (λ s _. claims? (arena_of b i) X (objective_of b i) (full (arena_of b i) s))

    pub strategic_row : (w : ℕ) (X : Table) → Strategic (L.kind b i) → Facts (arena_of b i) X (objective_of b i) → T (is_yes (claimed? w X)) → RowSet b i w
    strategic_row w X strategic facts passes = table_says_set w X strategic facts (from_yes (claimed? w X) passes)
