-- The table of a strategic row, given that lower rows are decided in every state: the solver's ranks and the moves that a search finds
-- for them, as two lists. It has the local facts, so each position is won by exactly one side. Assumes nothing.
use mathlib.Core.List.{List}
use mathlib.Core.Logic.{◌⊎◌, inl, inr}
use mathlib.Core.Path.{◌≡◌, refl, sym, ◌∙◌, ap, subst}
use Prim.Native.Nat.{ℕ, ◌^◌, ◌≤◌, ◌<◌}
use native.Mathlib.Omega.{arith}
use lib.ListN.{get_or}
use Rattle.game.specs.Position.{Arena, Position, IsPosition, number, positions}
use Rattle.game.specs.Play.{Objective, next, always, until}
use Rattle.game.specs.Table.{Table, never, no_move, move_at, Smallest, Good, Met, MoveIs}
use Rattle.game.specs.Inner.Facts.{CanForce, CanAnswer, RankFacts, RowsDecided, Claims, Facts}
use Rattle.game.proofs.Numbers.Decide.{lt?, not?}
use Rattle.game.proofs.Numbers.Values.{values, value_at}
use Rattle.game.proofs.Bridge.Proper.{Proper}
use Rattle.game.proofs.Local.Decidable.{position?, claims?}
use Rattle.game.proofs.Local.Same.{Same, same_sym, same_number, position_of, position_same, position_fits, number_below}
use Rattle.game.proofs.Local.ByNumber.{force_transfers, answer_transfers, move_same}
use Rattle.game.proofs.Local.Aims.{met?, good?}
use Rattle.game.proofs.Local.Exist.{first_below, good_exists}
use Rattle.game.proofs.Solving.Sides.{least_largest, force_attained, answer_defended, coalition_attacks, opponents_attack}
use Rattle.game.proofs.Solving.Sweeping.{force_weakens, answer_weakens}
use Rattle.game.proofs.Solving.Solver.{rank_of, first_ranks, lowered, Starts, starts_at, solved}

-- a table of two lists, by position number
abbrev pub listed : List ℕ → List ℕ → Table
listed ranks moves = record { rank = rank_of ranks; move = λ n. get_or moves n 0 }

-- ranks with no moves yet
abbrev bare : (ℕ → ℕ) → Table
bare rank = record { rank = rank; move = λ n. no_move }

-- a rank of next
abbrev next_rank : {Q : Type 0} → Dec Q → ℕ
next_rank (yes _) = 1
next_rank (no _) = never

-- the move at a position: none where it is not claimed, 0 where the row is met, and elsewhere the first that is found
abbrev picked : {P Q R : Type 0} {S : ℕ → Type 0} → Dec P → Dec Q → ((k : ℕ) × S k) ⊎ R → ℕ
picked (no _) met found = no_move
picked (yes _) (yes _) found = 0
picked (yes _) (no _) (inl (k, _)) = k
picked (yes _) (no _) (inr _) = no_move

module _ (G : Arena) (proper : Proper G.structure) where
  -- next: 1 where the coalition can force left
  module _ (left : ℕ → Type 0) (left? : (q : ℕ) → q < G.structure.states → Dec (left q)) where
    abbrev next_at : List ℕ → ℕ → ℕ
    next_at first n = next_rank (lt? (least_largest G (rank_of first) (position_of G n)) never)

    abbrev next_ranks : List ℕ
    next_ranks = let first = first_ranks G left left? in values (next_at first) (positions G)

    reached : (v q : ℕ) → v < never → Starts left q v → left q
    reached v q finite (inl (h, _)) = h
    reached v q finite (inr (_, e)) = absurd (omega arith)

    missed : (v q : ℕ) → never ≤ v → Starts left q v → left q → ⊥
    missed v q high (inl (_, e)) = absurd (omega arith)
    missed v q high (inr (fails, _)) = fails

    next_solved : RankFacts G (next left) (λ x. rank_of next_ranks (number G x))
    next_solved p fits = subst At (sym (value_at (next_at first) (positions G) (number G p) (number_below G p fits))) (go (lt? v never))
      where
        At : ℕ → Type 0
        At n = ((n ≡ 1) × CanForce G p (λ x. left x.state)) ⊎ ((n ≡ never) × CanAnswer G p (λ x. left x.state → ⊥))

        first : List ℕ
        first = first_ranks G left left?

        x : Position
        x = position_of G (number G p)

        inside : IsPosition G x
        inside = position_fits G (number G p) (number_below G p fits)

        s : Same G x p
        s = same_sym G p x (position_same G p fits)

        v : ℕ
        v = least_largest G (rank_of first) x

        force : v < never → CanForce G x (λ y. left y.state)
        force finite =
            force_weakens G proper x inside (λ y. rank_of first (number G y) ≤ v) (λ y. left y.state)
            (λ y fits' h. reached (rank_of first (number G y)) y.state (omega (arith, h)) (starts_at G left left? y fits')) (force_attained G (rank_of first) x finite)

        answer : never ≤ v → CanAnswer G x (λ y. left y.state → ⊥)
        answer high =
            answer_weakens G proper x inside (λ y. v ≤ rank_of first (number G y)) (λ y. left y.state → ⊥)
            (λ y fits' h. missed (rank_of first (number G y)) y.state (omega (arith, h)) (starts_at G left left? y fits')) (answer_defended G (rank_of first) x proper inside)

        go : (d : Dec (v < never)) → At (next_rank d)
        go (yes finite) = inl (refl, force_transfers G (λ _ q. left q) x p s (force finite))
        go (no high) = inr (refl, answer_transfers G (λ _ q. left q → ⊥) x p s (answer (omega arith)))

  -- the moves that go with ranks
  module _ (t : Objective) (rows : RowsDecided G t) (rank : ℕ → ℕ) where
    abbrev move_in : (p : Position) → Dec (IsPosition G p) → ℕ
    move_in p (yes fits) =
        let X = bare rank in
        picked (claims? G X t p) (met? G proper X t p) (first_below (Good G X t p) (good? G proper X p fits t rows) (4 ^ G.structure.agents))
    move_in p (no _) = no_move

    unfoldable pub found_moves : List ℕ
    found_moves = values (λ n. move_in (position_of G n) (position? G (position_of G n))) (positions G)

    module _ (facts : RankFacts G t (λ x. rank (number G x))) where
      move_is : (p : Position) → IsPosition G p → (d : Dec (IsPosition G p)) → MoveIs G (bare rank) t (Claims G (bare rank) t) p (move_in p d)
      move_is p fits (no fails) = absurd (fails fits)
      move_is p fits (yes fits') = go (claims? G X t p) (met? G proper X t p) (first_below (Good G X t p) (good? G proper X p fits' t rows) (4 ^ G.structure.agents))
        where
          X : Table
          X = bare rank

          go : (claimed : Dec (Claims G X t p)) (met : Dec (Met G X t p)) (found : ((k : ℕ) × Smallest (Good G X t p) k) ⊎ ((k : ℕ) → k < 4 ^ G.structure.agents → Good G X t p k → ⊥))
              → MoveIs G X t (Claims G X t) p (picked claimed met found)
          go (no unclaimed) met found = record { lost = λ _. refl; met = λ claim. absurd (unclaimed claim); best = λ claim. absurd (unclaimed claim) }
          go (yes claim) (yes met) found = record { lost = λ loses. absurd (loses claim); met = λ _ _. refl; best = λ _ unmet. absurd (unmet met) }
          go (yes claim) (no unmet) (inl (k, least)) = record { lost = λ loses. absurd (loses claim); met = λ _ met. absurd (unmet met); best = λ _ _. least }
          go (yes claim) (no unmet) (inr none) =
              let (m, good) = good_exists G X t facts p fits claim unmet in
              absurd (none m good.0.0.0 good)

      pub moves_found : Facts G (record { rank = rank; move = λ n. get_or found_moves n 0 }) t
      unfolding found_moves
      moves_found = record { ranks = facts; moves = moves; decided = rows }
        where
          X : Table
          X = record { rank = rank; move = λ n. get_or found_moves n 0 }

          moves : (p : Position) → IsPosition G p → MoveIs G X t (Claims G X t) p (move_at G X p)
          moves p fits = move_same G X t x p s (subst (MoveIs G X t (Claims G X t) x) shown (same_ranks (move_is x inside (position? G x))))
            where
              x : Position
              x = position_of G (number G p)

              inside : IsPosition G x
              inside = position_fits G (number G p) (number_below G p fits)

              s : Same G x p
              s = same_sym G p x (position_same G p fits)

              shown : move_in x (position? G x) ≡ move_at G X x
              shown =
                  sym (ap (λ (n : ℕ). get_or found_moves n 0) (same_number G x p s) ∙ value_at (λ n. move_in (position_of G n) (position? G (position_of G n))) (positions G) (number G p) (number_below G p fits))

              -- only the ranks matter
              same_ranks : {m : ℕ} → MoveIs G (bare rank) t (Claims G (bare rank) t) x m → MoveIs G X t (Claims G X t) x m
              same_ranks at = record { lost = at.lost; met = at.met; best = at.best }

  unfoldable pub solved_ranks : (t : Objective) → RowsDecided G t → List ℕ
  solved_ranks (until left right) rows = lowered G (coalition_attacks G proper) left rows.0 (first_ranks G right rows.1)
  solved_ranks (always left) rows = lowered G (opponents_attack G proper) (λ _. Unit {0}) (λ _ _. yes tt) (first_ranks G (λ q. left q → ⊥) (λ q l. not? (rows q l)))
  solved_ranks (next left) rows = next_ranks left rows

  abbrev pub solved_table : (t : Objective) → RowsDecided G t → Table
  solved_table t rows = listed (solved_ranks t rows) (found_moves t rows (rank_of (solved_ranks t rows)))

  module _ (few : positions G < never) where
    ranks_solved : (t : Objective) (rows : RowsDecided G t) → RankFacts G t (λ x. rank_of (solved_ranks t rows) (number G x))
    unfolding solved_ranks
    ranks_solved (until left right) rows = solved G (coalition_attacks G proper) left rows.0 few right rows.1
    ranks_solved (always left) rows = solved G (opponents_attack G proper) (λ _. Unit {0}) (λ _ _. yes tt) few (λ q. left q → ⊥) (λ q l. not? (rows q l))
    ranks_solved (next left) rows = next_solved left rows

    -- the solver's table has the facts
    pub solved_facts : (t : Objective) (rows : RowsDecided G t) → Facts G (solved_table t rows) t
    solved_facts t rows = moves_found t rows (rank_of (solved_ranks t rows)) (ranks_solved t rows)
