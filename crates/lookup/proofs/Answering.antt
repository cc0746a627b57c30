-- From a row made ready to the team's move: what is found by ranks is what plays give. Assumes nothing.
use mathlib.Core.List.{List}
use mathlib.Core.Path.{◌≡◌, refl, sym, ◌∙◌, ap, subst, transport}
use Prim.Native.Nat.{ℕ, ◌+◌, ◌*◌, ◌<◌}
use native.Mathlib.Omega.{arith}
use Rattle.block.specs.Layout as L
use Rattle.block.specs.Layout.{Block, Strategic}
use Rattle.block.specs.Inner.Valid.{Valid}
use Rattle.game.specs.Position.{Arena, Position, IsPosition, Allowed, number}
use Rattle.game.specs.Play.{Objective, CoalitionWins}
use Rattle.game.specs.Table.{Table, move_at, Good, Met, MoveIs}
use Rattle.game.specs.Inner.Facts.{Claims}
use Rattle.game.specs.Model.{arena_of, objective_of}
use Rattle.game.specs.Inner.Words.{objective_by}
use Rattle.game.proofs.Blocks.Passing.{valid_proper}
use Rattle.game.proofs.Local.Aims.{met?}
use Rattle.game.proofs.Local.Decidable.{claims?}
use Rattle.game.proofs.Whole.Unique.{smallest_unique}
use Rattle.turns.specs.Buffers.{rank_in}
use Rattle.ways.specs.Listing.{Useful}
use Rattle.ways.specs.Places.{PlacedAt}
use Rattle.ways.specs.declared.rows.Row.{Row}
use Rattle.ways.proofs.Placing.{placed_number}
use Rattle.choice.specs.Choices.{Sought}
use Rattle.choice.specs.Filling.{MoveRight}
use Rattle.choice.specs.Tables.{MoveFor}
use Rattle.rankings.proofs.ByKind.{claims_by}
use Rattle.choice.proofs.Moving.{move_listed}
use Rattle.choice.proofs.Searching.{joint_number}
use Rattle.solver.proofs.Readiness.{ready_table, ready_facts, ready_decided, claimed_wins, wins_claimed_by}
use Rattle.solver.specs.Inner.Labels.{Prepared}
use Rattle.game.specs.Demand.{RowMove}
use Rattle.lookup.specs.Inner.Spots.{SpotMove}

module _ {b : Block} (valid : Valid b) {i : ℕ} (inside : i < L.rows b) (strategic : Strategic (L.kind b i)) {left right : ℕ} {ranks : List ℕ} (ready : Prepared b i left right ranks) (p : Position) (fits : IsPosition (arena_of b i) p) where
  -- the table of the row's ranks
  abbrev found_table : Table
  found_table = ready_table valid inside strategic ready

  -- what goes with the ranks is the table's move
  module _ (m : ℕ) (found : MoveFor b i left right ranks p m) where
    abbrev told : Objective
    told = objective_by (L.kind b i) left right

    at : MoveIs (arena_of b i) found_table told (Claims (arena_of b i) found_table told) p m
    at = found found_table.move

    table_move : MoveIs (arena_of b i) found_table told (Claims (arena_of b i) found_table told) p (move_at (arena_of b i) found_table p)
    table_move = (ready_facts valid inside strategic ready).moves p fits

    module _ (claim : Claims (arena_of b i) found_table told p) where
      met_or_not : Dec (Met (arena_of b i) found_table told p)
      met_or_not = met? (arena_of b i) (valid_proper b valid) found_table told p

      small : Dec (Met (arena_of b i) found_table told p) → m < 64
      small (yes met) = omega (arith, at.met claim met)
      small (no unmet) = joint_number b valid m (at.best claim unmet).0.0.0.0

      same : Dec (Met (arena_of b i) found_table told p) → m ≡ move_at (arena_of b i) found_table p
      same (yes met) = at.met claim met ∙ sym (table_move.met claim met)
      same (no unmet) =
          let Best = Good (arena_of b i) found_table told p in
          smallest_unique Best Best (λ _ h. h) (λ _ h. h) m (move_at (arena_of b i) found_table p) (at.best claim unmet) (table_move.best claim unmet)

    -- and there is none where the coalition does not win
    pub coalition_none : m ≡ 255 → CoalitionWins (arena_of b i) (objective_of b i) p → ⊥
    coalition_none none wins =
        let claim = transport (claims_by (arena_of b i) found_table (L.kind b i) left right p) (wins_claimed_by valid inside strategic ready p fits wins) in
        omega (arith, small claim (met_or_not claim))

    pub coalition_found : (m ≡ 255 → ⊥) → RowMove b i p m
    coalition_found some = go (claims? (arena_of b i) found_table told p)
      where
        go : Dec (Claims (arena_of b i) found_table told p) → RowMove b i p m
        go (no loses) = absurd (some (at.lost loses))
        go (yes claim) = record {
          table = found_table;
          is_table = ready_decided valid inside strategic ready;
          wins = claimed_wins valid inside strategic ready p fits (transport (sym (claims_by (arena_of b i) found_table (L.kind b i) left right p)) claim);
          move = same claim (met_or_not claim);
          small = small claim (met_or_not claim);
        }

-- what the search finds at a spot, of each position that stands there
module _ {b : Block} (valid : Valid b) (row : Row) (sought : Sought b row (L.kind b row.index)) (right : ℕ) (ranks : List ℕ) (s x m : ℕ) (moved : MoveRight b row.index row.set ranks (s * row.places + x) m) where
  abbrev G : Arena
  G = arena_of b row.index

  at_index : row.index < L.rows b → Strategic (L.kind b row.index) → Prepared b row.index row.set right ranks → (p : Position) → PlacedAt G s x p → SpotMove b row.index row p m
  at_index inside strategic ready p placed = record {
    none = coalition_none valid inside strategic ready p placed.fits m chosen;
    move = found;
    listed = λ some.
        subst (λ (q : ℕ). Useful b row q m × Allowed G p m) (sym placed.state)
        (move_listed b valid row (L.kind b row.index) sought ranks s x (rank_in ranks (number G p)) p placed refl right
        (wins_claimed_by valid inside strategic ready p placed.fits (found some).wins) m chosen);
  }
    where
      chosen : MoveFor b row.index row.set right ranks p m
      chosen = moved right ready.ranks_of p placed.fits (sym (ap (λ (n : ℕ). s * n + x) sought.playable.places_are ∙ placed_number G s x p placed))

      found : (m ≡ 255 → ⊥) → RowMove b row.index p m
      found = coalition_found valid inside strategic ready p placed.fits m chosen

  pub spot_moves : (i : ℕ) → row.index ≡ i → i < L.rows b → Strategic (L.kind b i) → Prepared b i row.set right ranks → (p : Position) → PlacedAt (arena_of b i) s x p → SpotMove b i row p m
  spot_moves i is =
      subst (λ (j : ℕ). j < L.rows b → Strategic (L.kind b j) → Prepared b j row.set right ranks → (p : Position) → PlacedAt (arena_of b j) s x p → SpotMove b j row p m) is at_index
