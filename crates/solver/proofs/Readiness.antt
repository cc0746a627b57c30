-- A row made ready: what its ranks claim over the lower rows' sets is what plays give. Assumes nothing.
use mathlib.Core.List.{List}
use mathlib.Core.Logic.{◌↔◌, inr}
use mathlib.Core.Path.{◌≡◌, refl, sym, ◌∙◌, ap, subst, transport}
use Prim.Native.Nat.{ℕ, ◌<◌}
use native.Mathlib.Omega.{arith}
use lib.ListN.{get_or}
use Rattle.block.specs.Decide.{Bit}
use Rattle.block.specs.Layout as L
use Rattle.block.specs.Layout.{Block, Strategic}
use Rattle.block.specs.Inner.Valid.{Valid}
use Rattle.game.specs.Position.{Position, IsPosition, number}
use Rattle.game.specs.Play.{Objective, next, always, until, CoalitionWins}
use Rattle.game.specs.Table.{Table}
use Rattle.game.specs.Inner.Facts.{Claims, Facts}
use Rattle.game.specs.Inner.Words.{objective_by}
use Rattle.game.specs.Model.{RowTrue, RowSet, arena_of, objective_of}
use Rattle.game.specs.Demand.{TableOf}
use Rattle.game.proofs.Numbers.Decide.{eq?}
use Rattle.game.proofs.Local.Lower.{Retold, same_next, same_always, same_until, retold}
use Rattle.game.proofs.Blocks.Passing.{valid_proper}
use Rattle.game.proofs.Blocks.Formulas.{next_objective, always_objective, until_objective}
use Rattle.game.proofs.Blocks.Labels.{set_tells}
use Rattle.game.proofs.Blocks.Tables.{table_decided}
use Rattle.game.proofs.Solving.Determined.{found_moves, moves_found}
use Rattle.game.proofs.Whole.Decided.{claims_win, wins_claimed}
use Rattle.turns.specs.Buffers.{rank_in}
use Rattle.rankings.specs.Kinds.{ClaimsBy}
use Rattle.rankings.proofs.ByKind.{until_stands, claims_by, words_decided}
use Rattle.solver.specs.Inner.Labels.{Prepared}

-- the objective does not matter to a claim but by its kind
pub retold_claims : (b : Block) (i : ℕ) (X : Table) (p : Position) {t t' : Objective} → Retold (arena_of b i) t t' → Claims (arena_of b i) X t p ≡ Claims (arena_of b i) X t' p
retold_claims b i X p (same_next l) = refl
retold_claims b i X p (same_always l) = refl
retold_claims b i X p (same_until l r) = refl

module _ (b : Block) (valid : Valid b) (i : ℕ) (inside : i < L.rows b) (left right : ℕ)
    (left_set : L.prop_kind < L.kind b i → RowSet b (L.left b i) left) (right_set : L.Binary (L.kind b i) → RowSet b (L.right b i) right) where
  -- the sets tell the lower rows' truth
  pub row_retold : Strategic (L.kind b i) → Retold (arena_of b i) (objective_by (L.kind b i) left right) (objective_of b i)
  row_retold strategic = go (eq? (L.kind b i) L.next_kind) (eq? (L.kind b i) L.always_kind)
    where
      told : (t t' : Objective) → objective_by (L.kind b i) left right ≡ t → objective_of b i ≡ t' → Retold (arena_of b i) t t' → Retold (arena_of b i) (objective_by (L.kind b i) left right) (objective_of b i)
      told t t' e e' same = subst (λ (x : Objective). Retold (arena_of b i) x (objective_of b i)) (sym e) (subst (Retold (arena_of b i) t) (sym e') same)

      lower : (q : ℕ) → q < L.states b → Bit left q ↔ RowTrue b (L.left b i) q
      lower = set_tells b (L.left b i) left (left_set (omega (arith, strategic)))

      go : Dec (L.kind b i ≡ L.next_kind) → Dec (L.kind b i ≡ L.always_kind) → Retold (arena_of b i) (objective_by (L.kind b i) left right) (objective_of b i)
      go (yes e) _ = told _ _ (ap (λ (k : ℕ). objective_by k left right) e) (next_objective b (valid_proper b valid) i (valid.row_fits i inside) e) (same_next lower)
      go (no _) (yes e) = told _ _ (ap (λ (k : ℕ). objective_by k left right) e) (always_objective b (valid_proper b valid) i (valid.row_fits i inside) e) (same_always lower)
      go (no n₃) (no n₄) =
          let e : L.kind b i ≡ L.until_kind = omega (arith, strategic) in
          told _ _ (until_stands (L.kind b i) (next (Bit left)) (always (Bit left)) (until (Bit left) (Bit right)) n₃ n₄) (until_objective b (valid_proper b valid) i (valid.row_fits i inside) e) (same_until lower (set_tells b (L.right b i) right (right_set (inr e))))

  -- a table over the lower rows' sets is one over their truth
  pub facts_told : Strategic (L.kind b i) → (X : Table) → Facts (arena_of b i) X (objective_by (L.kind b i) left right) → Facts (arena_of b i) X (objective_of b i)
  facts_told strategic X = retold (arena_of b i) (valid_proper b valid) X (row_retold strategic)

module _ {b : Block} (valid : Valid b) {i : ℕ} (inside : i < L.rows b) (strategic : Strategic (L.kind b i)) {left right : ℕ} {ranks : List ℕ} (ready : Prepared b i left right ranks) where
  -- the table of these ranks
  abbrev pub ready_table : Table
  ready_table = record { rank = rank_in ranks; move = λ n. get_or (found_moves (arena_of b i) (valid_proper b valid) (objective_by (L.kind b i) left right) (words_decided (arena_of b i) (L.kind b i) left right) (rank_in ranks)) n 0 }

  pub ready_facts : Facts (arena_of b i) ready_table (objective_by (L.kind b i) left right)
  ready_facts = moves_found (arena_of b i) (valid_proper b valid) (objective_by (L.kind b i) left right) (words_decided (arena_of b i) (L.kind b i) left right) (rank_in ranks) ready.ranks_of.facts

  pub row_facts : Facts (arena_of b i) ready_table (objective_of b i)
  row_facts = facts_told b valid i inside left right ready.left_set ready.right_set strategic ready_table ready_facts

  pub ready_decided : TableOf b i ready_table
  ready_decided = table_decided b valid i ready_table row_facts

  -- by the rank alone it is told who wins
  pub same_claim : (p : Position) → ClaimsBy (L.kind b i) (rank_in ranks (number (arena_of b i) p)) ≡ Claims (arena_of b i) ready_table (objective_of b i) p
  same_claim p = claims_by (arena_of b i) ready_table (L.kind b i) left right p ∙ retold_claims b i ready_table p (row_retold b valid i inside left right ready.left_set ready.right_set strategic)

  module _ (p : Position) (fits : IsPosition (arena_of b i) p) where
    pub claimed_wins : ClaimsBy (L.kind b i) (rank_in ranks (number (arena_of b i) p)) → CoalitionWins (arena_of b i) (objective_of b i) p
    claimed_wins claim = claims_win (arena_of b i) (valid_proper b valid) ready_table (objective_of b i) row_facts p fits (transport (same_claim p) claim)

    pub wins_claimed_by : CoalitionWins (arena_of b i) (objective_of b i) p → ClaimsBy (L.kind b i) (rank_in ranks (number (arena_of b i) p))
    wins_claimed_by wins = transport (sym (same_claim p)) (wins_claimed (arena_of b i) (valid_proper b valid) ready_table (objective_of b i) row_facts p fits wins)
