-- What stands for each strategic kind, and what ranks say over lower rows' sets. Assumes nothing.
use mathlib.Core.Bool.{Bool, true, false, cond}
use mathlib.Core.Path.{◌≡◌, refl, sym, ◌∙◌, ap, transport}
use Prim.Native.Nat.{ℕ, ◌/◌, ◌%◌, ◌^◌, ◌<◌}
use native.Mathlib.Omega.{arith}
use lib.Dec.{eqb}
use borrow.Author.Tests.{ne_eqb}
use Rattle.block.specs.Decide.{Bit}
use Rattle.block.specs.Inner.Tests.{Decides}
use Rattle.block.proofs.Decide as D
use Rattle.game.specs.Position.{Arena, Position}
use Rattle.game.specs.Play.{Objective, next, always, until}
use Rattle.game.specs.Table.{Table, never, rank_at, Aim, Met, Failed, CounterAim}
use Rattle.game.specs.Inner.Facts.{Claims, RowsDecided}
use Rattle.game.specs.Inner.Words.{objective_by}
use Rattle.game.proofs.Numbers.Decide.{eq?}
use Rattle.rankings.specs.Kinds.{by_strategy, ClaimsBy, MetBy, AimBy, CounterBy, FailedBy}

-- for a kind that is neither next nor always
pub until_stands {ℓ} : {X : Type ℓ} (k : ℕ) (A B C : X) → (k ≡ 3 → ⊥) → (k ≡ 4 → ⊥) → by_strategy k A B C ≡ C
until_stands k A B C n₃ n₄ = ap (λ (t : Bool). cond t A (cond (eqb k 4) B C)) (ne_eqb k 3 n₃) ∙ ap (λ (t : Bool). cond t B C) (ne_eqb k 4 n₄)

-- a test of what stands for the kind
pub decides_as : {P Q : Type 0} {t : Bool} → Q ≡ P → Decides P t → Decides Q t
decides_as e told = D.same told (transport (sym e)) (transport e)

-- a claim about what the row asks is what stands for its kind
pub along_kind : (Q : Objective → Type 0) (k : ℕ) (o₃ o₄ o₅ : Objective) → by_strategy k (Q o₃) (Q o₄) (Q o₅) ≡ Q (by_strategy k o₃ o₄ o₅)
along_kind Q k o₃ o₄ o₅ = go (eqb k 3) (eqb k 4)
  where
    go : (t u : Bool) → cond t (Q o₃) (cond u (Q o₄) (Q o₅)) ≡ Q (cond t o₃ (cond u o₄ o₅))
    go true u = refl
    go false true = refl
    go false false = refl

module _ (G : Arena) (X : Table) (k left right : ℕ) (p : Position) where
  by_objective : (Q : Objective → Type 0) → by_strategy k (Q (next (Bit left))) (Q (always (Bit left))) (Q (until (Bit left) (Bit right))) ≡ Q (objective_by k left right)
  by_objective Q = along_kind Q k (next (Bit left)) (always (Bit left)) (until (Bit left) (Bit right))

  pub claims_by : ClaimsBy k (rank_at G X p) ≡ Claims G X (objective_by k left right) p
  claims_by = by_objective (λ t. Claims G X t p)

  pub met_by : MetBy k (rank_at G X p) ≡ Met G X (objective_by k left right) p
  met_by = by_objective (λ t. Met G X t p)

  pub failed_by : FailedBy k left right (rank_at G X p) p.state ≡ Failed G X (objective_by k left right) p
  failed_by = by_objective (λ t. Failed G X t p)

  pub aim_by : (x : Position) → AimBy k left (rank_at G X p) x.state (rank_at G X x) ≡ Aim G X (objective_by k left right) p x
  aim_by x = by_objective (λ t. Aim G X t p x)

  pub counter_by : (x : Position) → CounterBy k left (rank_at G X p) x.state (rank_at G X x) ≡ CounterAim G X (objective_by k left right) (Claims G X (objective_by k left right)) p x
  counter_by x = by_objective (λ t. CounterAim G X t (Claims G X t) p x)

-- lower rows that are told by words are decided
pub words_decided : (G : Arena) (k left right : ℕ) → RowsDecided G (objective_by k left right)
words_decided G k left right = go (eqb k 3) (eqb k 4)
  where
    bit? : (w s : ℕ) → Dec (Bit w s)
    bit? w s = eq? (w / 2 ^ s % 2) 1

    go : (t u : Bool) → RowsDecided G (cond t (next (Bit left)) (cond u (always (Bit left)) (until (Bit left) (Bit right))))
    go true u = λ q _. bit? left q
    go false true = λ q _. bit? left q
    go false false = ((λ q _. bit? left q), λ q _. bit? right q)

-- until alone is won at rank 0, where it is met
pub zero_met : (k rank : ℕ) → ClaimsBy k rank → rank ≡ 0 → MetBy k rank
zero_met k rank = go (eqb k 3) (eqb k 4)
  where
    go : (t u : Bool) → cond t (rank ≡ 1) (cond u (rank ≡ never) (rank < never)) → rank ≡ 0 → cond t ⊥ (cond u ⊥ (rank ≡ 0))
    go true u claim zero = omega arith
    go false true claim zero = omega arith
    go false false claim zero = zero

pub met_zero : (k rank : ℕ) → MetBy k rank → rank ≡ 0
met_zero k rank = go (eqb k 3) (eqb k 4)
  where
    go : (t u : Bool) → cond t ⊥ (cond u ⊥ (rank ≡ 0)) → rank ≡ 0
    go true u met = absurd met
    go false true met = absurd met
    go false false met = met
