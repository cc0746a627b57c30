-- A row's set from what the code finds: lower rows' sets, ranks, and the states in which the row is true by them. Assumes nothing.
use mathlib.Core.List.{List}
use mathlib.Core.Logic.{◌⊎◌, ◌↔◌, inl}
use mathlib.Core.Path.{◌≡◌, sym, ◌∙◌, ap, transport}
use Prim.Native.Nat.{ℕ, ◌+◌, ◌/◌, ◌%◌, ◌^◌, ◌<◌}
use native.Mathlib.Omega.{arith}
use lib.Dec.{T, eqb→eq}
use Rattle.block.specs.Decide.{Bit}
use Rattle.block.specs.Layout as L
use Rattle.block.specs.Layout.{Block, Strategic}
use Rattle.block.specs.Inner.Valid.{Valid}
use Rattle.game.specs.Position.{number, full}
use Rattle.game.specs.Inner.Facts.{Claims}
use Rattle.turns.specs.Buffers.{rank_in, word_in}
use Rattle.game.specs.Model.{bit, by_kind, RowSet, arena_of, objective_of}
use Rattle.game.specs.Inner.Words.{Says}
use Rattle.game.proofs.Numbers.Decide.{eq?, eq_test}
use Rattle.turns.proofs.Bytes.{one_more}
use Rattle.game.proofs.Blocks.Passing.{valid_proper}
use Rattle.game.proofs.Blocks.Labels.{prop_set, not_set, or_set, table_says_set}
use Rattle.solver.specs.Inner.Labels.{LowerSets, RowLabelled, Prepared}
use Rattle.choice.specs.Tables.{RanksOf}
use Rattle.rankings.specs.Kinds.{ClaimsBy}
use Rattle.solver.specs.Inner.Rows.{TrueBy}
use Rattle.solver.proofs.Words.{strategic_stands}
use Rattle.solver.proofs.Readiness.{ready_table, row_facts, same_claim}

says_same : (b : Block) (w : ℕ) (Q Q' : ℕ → Type 0) → ((s : ℕ) → s < L.states b → Q s ↔ Q' s) → Says b w Q → Says b w Q'
says_same b w Q Q' same (word, (few, says)) = (word, (few, λ s l. ((λ h. (same s l).0 ((says s l).0 h)), λ q. (says s l).1 ((same s l).1 q))))

along : {P Q : Type 0} → P ≡ Q → P ↔ Q
along path = ((λ p. transport path p), λ q. transport (sym path) q)

module _ (b : Block) (valid : Valid b) (i : ℕ) (inside : i < L.rows b) (left right : ℕ)
    (left_set : L.prop_kind < L.kind b i → RowSet b (L.left b i) left) (right_set : L.Binary (L.kind b i) → RowSet b (L.right b i) right) where
  module _ (ranks : List ℕ) (w : ℕ) (word : Says b w (TrueBy b i left right ranks)) where
    -- what the kind asks for in state s
    abbrev Prop : ℕ → Type 0
    Prop s = Bit (L.mask b s) (L.left b i)

    abbrev Not : ℕ → Type 0
    Not s = Bit left s → ⊥

    abbrev Or : ℕ → Type 0
    Or s = Bit left s ⊎ Bit right s

    abbrev Claimed : ℕ → Type 0
    Claimed s = ClaimsBy (L.kind b i) (rank_in ranks (number (arena_of b i) (full (arena_of b i) s)))

    abbrev stands : ℕ → ℕ → Type 0
    stands s k = by_kind k (Prop s) (Not s) (Or s) (Claimed s) (Claimed s) (Claimed s)

    strategic_set : Strategic (L.kind b i) → RanksOf b i left right ranks → RowSet b i w
    strategic_set strategic found =
        let G = arena_of b i in
        let ready : Prepared b i left right ranks = record { left_set = left_set; right_set = right_set; ranks_of = found } in
        table_says_set b (valid_proper b valid) i (valid.row_fits i inside) w (ready_table valid inside strategic ready) strategic (row_facts valid inside strategic ready)
        (says_same b w (TrueBy b i left right ranks) (λ s. Claims G (ready_table valid inside strategic ready) (objective_of b i) (full G s))
        (λ s _. along (strategic_stands (L.kind b i) (Prop s) (Not s) (Or s) (Claimed s) (λ e. omega (arith, strategic)) (λ e. omega (arith, strategic)) (λ e. omega (arith, strategic))
        ∙ same_claim valid inside strategic ready (full G s))) word)

    pub row_labelled : (Strategic (L.kind b i) → RanksOf b i left right ranks) → RowSet b i w
    row_labelled found = go (eq? (L.kind b i) L.prop_kind) (eq? (L.kind b i) L.not_kind) (eq? (L.kind b i) L.or_kind)
      where
        bit_set : (m s : ℕ) → Bit m s ↔ T (bit m s)
        bit_set m s = ((λ h. eq_test (m / 2 ^ s % 2) 1 h), λ h. eqb→eq (m / 2 ^ s % 2) 1 h)

        go : Dec (L.kind b i ≡ L.prop_kind) → Dec (L.kind b i ≡ L.not_kind) → Dec (L.kind b i ≡ L.or_kind) → RowSet b i w
        go (yes e) _ _ =
            prop_set b (valid_proper b valid) i (valid.row_fits i inside) w e
            (says_same b w Prop (λ s. T (bit (L.mask b s) (L.left b i))) (λ s _. bit_set (L.mask b s) (L.left b i)) (says_same b w (TrueBy b i left right ranks) Prop (λ s _. along (ap (stands s) e)) word))
        go (no _) (yes e) _ =
            not_set b (valid_proper b valid) i (valid.row_fits i inside) w left e (left_set (omega arith))
            (says_same b w (TrueBy b i left right ranks) Not (λ s _. along (ap (stands s) e)) word)
        go (no _) (no _) (yes e) =
            or_set b (valid_proper b valid) i (valid.row_fits i inside) w left right e (left_set (omega arith)) (right_set (inl e))
            (says_same b w (TrueBy b i left right ranks) Or (λ s _. along (ap (stands s) e)) word)
        go (no n₀) (no n₁) (no n₂) =
            let strategic : Strategic (L.kind b i) = (omega arith, (valid.row_fits i inside).known) in
            strategic_set strategic (found strategic)

-- one more row has its set, where those below it of which Q holds have theirs
pub set_more : (b : Block) (i : ℕ) {l l' : List ℕ} (Q : ℕ → Type 0) → ((j : ℕ) → j < i → Q j → RowSet b j (word_in l j)) → RowLabelled b i l l' → (j : ℕ) → j < i + 1 → Q j → RowSet b j (word_in l' j)
set_more b i {l} {l'} Q lower one = one_more word_in (λ j w. Q j → RowSet b j w) l l' one.others (λ _. one.set) lower

pub lower_more : (b : Block) (i : ℕ) (l l' : List ℕ) → LowerSets b i l → RowLabelled b i l l' → LowerSets b (i + 1) l'
lower_more b i l l' lower one j small = set_more b i (λ _. Unit) (λ k less _. lower k less) one j small tt
