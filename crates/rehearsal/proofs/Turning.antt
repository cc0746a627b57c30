-- One turn, by what is listed of a row. Assumes nothing.
use mathlib.Core.Logic.{◌↔◌}
use mathlib.Core.List.{List}
use mathlib.Core.Path.{◌≡◌, sym, ◌∙◌, ap, subst, transport}
use Prim.Native.Nat.{ℕ, ◌+◌, ◌<◌}
use Rattle.std.specs.Prelude.{None, Some}
use Rattle.block.specs.Decide.{Bit}
use Rattle.block.specs.Layout as L
use Rattle.block.specs.Layout.{Block, Strategic}
use Rattle.block.specs.Inner.Valid.{Valid}
use Rattle.game.specs.Rbatl.{Computation}
use Rattle.game.specs.Position.{Arena, Position, MoveOf, Reply}
use Rattle.game.specs.Play.{Objective, next, always, until}
use Rattle.game.specs.Model.{structure_of, coalition_of, arena_of, objective_of}
use Rattle.game.specs.Demand.{RowMove}
use Rattle.game.specs.Inner.Words.{objective_by}
use Rattle.game.proofs.Blocks.Passing.{valid_proper}
use Rattle.game.proofs.Bridge.Plays.{outcome_fits}
use Rattle.game.proofs.Local.Lower.{Retold, same_next, same_always, same_until}
use Rattle.turns.specs.Inner.Rules.{ReplyTo}
use Rattle.ways.specs.Listing.{Useful}
use Rattle.ways.specs.Places.{PlacedAt}
use Rattle.ways.specs.declared.rows.Row.{Row}
use Rattle.choice.specs.Choices.{Makes}
use Rattle.rankings.proofs.ByKind.{along_kind}
use Rattle.choice.proofs.Moving.{outcome_next}
use Rattle.solver.specs.Inner.Labels.{Prepared}
use Rattle.solver.proofs.Readiness.{row_retold}
use Rattle.lookup.specs.Inner.Spots.{SpotMove}
use Rattle.rehearsal.specs.Rehearsal.{Finished}
use Rattle.rehearsal.specs.Inner.Turns.{FinishedBy, Turned}
use Rattle.std.specs.Prelude.{Some}

module _ (b : Block) (valid : Valid b) (row : Row) (s x m r : ℕ) where
  -- where the team's move lands and the reply leads
  here_to : (y : ℕ) → ReplyTo b row.index s r → Makes b row s x m (Some y)
      → (p : Position) → PlacedAt (arena_of b row.index) s x p → RowMove b row.index p m
      → Turned (arena_of b row.index) (objective_of b row.index) p r (Some (record { state = L.next b s (m + r); place = y }))
  here_to y reply (move, lands) p placed asked = (
    here,
    (
      m,
      asked,
      record {
        fits = outcome_fits (arena_of b row.index) (valid_proper b valid) p m r placed.fits moved here;
        state = outcome_next b valid row s m p placed.state moved r here;
        place = (lands.1 p placed).1 r;
      },
    ),
  )
    where
      here : Reply (arena_of b row.index) p r
      here = subst (λ (q : ℕ). ReplyTo b row.index q r) (sym placed.state) reply

      moved : MoveOf (structure_of b) (coalition_of b row.index) p.state m
      moved = subst (λ (q : ℕ). MoveOf (structure_of b) (coalition_of b row.index) q m) (sym placed.state) move

  module _ (i : ℕ) (is : row.index ≡ i) where
    pub turned_to : (y : ℕ) → ReplyTo b row.index s r → Makes b row s x m (Some y)
        → (p : Position) → PlacedAt (arena_of b i) s x p → RowMove b i p m
        → Turned (arena_of b i) (objective_of b i) p r (Some (record { state = L.next b s (m + r); place = y }))
    turned_to y reply makes =
        subst (λ (j : ℕ). (p : Position) → PlacedAt (arena_of b j) s x p → RowMove b j p m → Turned (arena_of b j) (objective_of b j) p r (Some (record { state = L.next b s (m + r); place = y }))) is
        (here_to y reply makes)

    -- the position pays the team's move
    pub never_unpaid : Makes b row s x m None → (p : Position) → PlacedAt (arena_of b i) s x p → SpotMove b i row p m → (m ≡ 255 → ⊥) → ⊥
    never_unpaid makes =
        subst (λ (j : ℕ). (p : Position) → PlacedAt (arena_of b j) s x p → SpotMove b j row p m → (m ≡ 255 → ⊥) → ⊥) is
        (λ p placed move some. let (useful, paid) = move.listed some in makes p placed (subst (λ (q : ℕ). Useful b row q m) placed.state useful) paid)

    -- a number that is not listed is no reply
    pub never_reply : (ReplyTo b row.index s r → ⊥) → (p : Position) → PlacedAt (arena_of b i) s x p → Reply (arena_of b i) p r → ⊥
    never_reply none p placed reply = none (subst (λ (j : ℕ). ReplyTo b j s r) (sym is) (subst (λ (q : ℕ). ReplyTo b i q r) placed.state reply))

-- whether a row made ready is finished is told by the set of its right row
retold_finished : (G : Arena) {t t' : Objective} → Retold G t t' → (bytes : ℕ) (λs : Computation) (n : ℕ) → λs n < G.structure.states → Finished t bytes λs n ↔ Finished t' bytes λs n
retold_finished G (same_next l) bytes λs n inside = ((λ h. h), λ h. h)
retold_finished G (same_always l) bytes λs n inside = ((λ h. h), λ h. h)
retold_finished G (same_until l r) bytes λs n inside = r (λs n) inside

pub finished_told : {b : Block} → Valid b → {i : ℕ} → i < L.rows b → Strategic (L.kind b i) → {left right : ℕ} {ranks : List ℕ} → Prepared b i left right ranks
    → (bytes : ℕ) (λs : Computation) (n q : ℕ) → λs n ≡ q → q < L.states b → FinishedBy (L.kind b i) right bytes q n ↔ Finished (objective_of b i) bytes λs n
finished_told {b} valid {i} inside strategic {left} {right} ready bytes λs n q is state =
    let same = retold_finished (arena_of b i) (row_retold b valid i inside left right ready.left_set ready.right_set strategic) bytes λs n (rw is state) in
    ((λ h. same.0 (transport told h)), λ h. transport (sym told) (same.1 h))
  where
    told : FinishedBy (L.kind b i) right bytes q n ≡ Finished (objective_by (L.kind b i) left right) bytes λs n
    told =
        ap (λ (k : ℕ). FinishedBy (L.kind b i) right bytes k n) (sym is)
        ∙ along_kind (λ t. Finished t bytes λs n) (L.kind b i) (next (Bit left)) (always (Bit left)) (until (Bit left) (Bit right))
