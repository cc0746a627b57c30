-- After the last stage: nothing is due, so that words that stand for no rank are never, and all ranks are right. Assumes nothing.
use mathlib.Core.Bool.{Bool, true, false}
use mathlib.Core.List.{List}
use mathlib.Core.Path.{◌≡◌, refl, sym, ◌∙◌, ap, subst}
use Prim.Native.Nat.{ℕ, suc, ◌+◌, ◌*◌, ◌≤◌, ◌<◌}
use native.Mathlib.Omega.{arith}
use Rattle.block.specs.Decide.{Bit}
use Rattle.block.specs.Layout as L
use Rattle.block.specs.Layout.{Block}
use Rattle.block.specs.Inner.Valid.{Valid}
use Rattle.game.specs.Inner.Facts.{Ranked}
use Rattle.game.specs.Model.{arena_of}
use Rattle.game.specs.Position.{Arena, Position, IsPosition, number}
use Rattle.game.specs.Inner.Stocks.{stocks_of}
use Rattle.game.specs.Table.{never}
use Rattle.game.proofs.Numbers.Decide.{lt?}
use Rattle.turns.specs.Buffers.{rank_in}
use Rattle.ways.specs.Places.{PlacedAt}
use Rattle.ways.specs.declared.rows.Row.{Row}
use Rattle.ways.proofs.Placing.{stocks_below, placed_number}
use Rattle.stages.specs.Stages.{hold, rank_of}
use Rattle.stages.specs.Solving.{Attacks, Defends, Attacked, Defended, Rests, Found, Finished}
use Rattle.stages.proofs.Opening.{all_positions, position_inside}
use Rattle.stages.proofs.Paths.{to_inside, next_inside, all_force, some_answer}

module _ (b : Block) (valid : Valid b) (row : Row) (ways : List ℕ) (most : Bool) (safe goal : ℕ) (ranks₀ ranks ranks' : List ℕ)
    (found : Found b row ways most safe goal ranks₀ ranks) (finished : Finished (L.states b * row.places) ranks ranks') where
  abbrev G : Arena
  G = arena_of b row.index

  abbrev rank : Position → ℕ
  rank p = rank_in ranks' (number G p)

  abbrev board : List ℕ
  board = found.board

  module _ (s x : ℕ) (state : s < L.states b) (place : x < row.places) where
    inside : s * row.places + x < L.states b * row.places
    inside = omega (arith, position_inside b valid row found.nexts.playable s x state place, all_positions b valid row found.nexts.playable)

    low_same : rank_of row ranks s x < hold → rank_of row ranks' s x ≡ rank_of row ranks s x
    low_same low = finished.ranked (s * row.places + x) inside low

    high_never : hold ≤ rank_of row ranks s x → rank_of row ranks' s x ≡ never
    high_never high = finished.unranked (s * row.places + x) inside high

    -- a finite rank was there
    was_low : rank_of row ranks' s x < never → rank_of row ranks s x < hold
    was_low finite = go (lt? (rank_of row ranks s x) hold)
      where
        go : Dec (rank_of row ranks s x < hold) → rank_of row ranks s x < hold
        go (yes low) = low
        go (no ne) = absurd (omega (arith, high_never (omega arith)))

    -- ranks are not below what they were, and those that nothing holds below the last stage are never
    at_least : (m : ℕ) → m ≤ never → m ≤ suc (rank_of row ranks s x) → m ≤ suc (rank_of row ranks' s x)
    at_least m few enough = go (lt? (rank_of row ranks s x) hold)
      where
        go : Dec (rank_of row ranks s x < hold) → m ≤ suc (rank_of row ranks' s x)
        go (yes low) = omega (arith, low_same low)
        go (no ne) = omega (arith, high_never (omega arith))

    past_never : found.stage ≤ suc (rank_of row ranks s x) → rank_of row ranks' s x ≡ never
    past_never enough = go (lt? (rank_of row ranks s x) hold)
      where
        go : Dec (rank_of row ranks s x < hold) → rank_of row ranks' s x ≡ never
        go (yes low) = absurd (found.none s x state place (omega (arith, found.staged.below s x state place low)))
        go (no ne) = high_never (omega arith)

  -- a position, its state and its place
  module _ (p : Position) (fits : IsPosition G p) where
    x : ℕ
    x = number G (stocks_of G p)

    placed : PlacedAt G p.state (number G (stocks_of G p)) p
    placed = record { fits = fits; state = refl; place = refl }

    place : number G (stocks_of G p) < row.places
    place = omega (arith, stocks_below G p fits, found.nexts.playable.places_are)

    here : number G p ≡ p.state * row.places + number G (stocks_of G p)
    here = sym (placed_number G p.state (number G (stocks_of G p)) p placed) ∙ ap (λ (c : ℕ). p.state * c + number G (stocks_of G p)) (sym found.nexts.playable.places_are)

    rank_is : rank p ≡ rank_of row ranks' p.state (number G (stocks_of G p))
    rank_is = ap (rank_in ranks') here

    -- the attack of a ranked position, and the defence of any
    attack : (side : Bool) → (m : ℕ) → m ≤ hold → Attacked b row ways board most ranks side m p.state (number G (stocks_of G p)) → Attacks G side p (λ z. rank z < m)
    attack true m few (k, y, to, each) =
        all_force b valid row ways board found.nexts p.state fits.0 (number G (stocks_of G p)) place p placed (λ j. rank_in ranks' j < m) k y to
        (λ q bit. omega (arith, each q bit, low_same q y (next_inside b valid row ways board found.nexts p.state fits.0 k q to.0 bit) (to_inside b valid row ways board found.nexts p.state fits.0 (number G (stocks_of G p)) k y to) (omega (arith, each q bit))))
    attack false m few each =
        some_answer b valid row ways board found.nexts p.state fits.0 (number G (stocks_of G p)) place p placed (λ j. rank_in ranks' j < m)
        (λ k y to.
        let (q, bit, low) = each k y to in
        (q, bit, omega (arith, low, low_same q y (next_inside b valid row ways board found.nexts p.state fits.0 k q to.0 bit) (to_inside b valid row ways board found.nexts p.state fits.0 (number G (stocks_of G p)) k y to) (omega arith))))

    -- what the defence keeps up at the next states, given what is known of their words
    module _ (m : ℕ) (Keeps : ℕ → Type 0) (kept : (q y : ℕ) → q < L.states b → y < row.places → m ≤ suc (rank_of row ranks q y) → Keeps (rank_of row ranks' q y)) where
      defence : (side : Bool) → Defended b row ways board most ranks side m p.state (number G (stocks_of G p)) → Defends G side p (λ z. Keeps (rank z))
      defence true each =
          some_answer b valid row ways board found.nexts p.state fits.0 (number G (stocks_of G p)) place p placed (λ j. Keeps (rank_in ranks' j))
          (λ k y to.
          let (q, bit, enough) = each k y to in
          (q, bit, kept q y (next_inside b valid row ways board found.nexts p.state fits.0 k q to.0 bit) (to_inside b valid row ways board found.nexts p.state fits.0 (number G (stocks_of G p)) k y to) enough))
      defence false (k, y, to, each) =
          all_force b valid row ways board found.nexts p.state fits.0 (number G (stocks_of G p)) place p placed (λ j. Keeps (rank_in ranks' j)) k y to
          (λ q bit. kept q y (next_inside b valid row ways board found.nexts p.state fits.0 k q to.0 bit) (to_inside b valid row ways board found.nexts p.state fits.0 (number G (stocks_of G p)) k y to) (each q bit))

      rests_defence : (side : Bool) → m ≡ found.stage → Rests b row ways board most ranks side found.stage p.state (number G (stocks_of G p)) → Defends G side p (λ z. Keeps (rank z))
      rests_defence true is rests = defence true (subst (λ (j : ℕ). Defended b row ways board most ranks true j p.state (number G (stocks_of G p))) (sym is) rests)
      rests_defence false is (k, e, waits, each) = defence false (k, waits.place, waits.to, λ q bit. omega (arith, each q bit))

  pub found_ranked : Ranked G (Bit safe) (Bit goal) rank (Attacks G most) (Defends G most)
  found_ranked = record {
    sound = record {
      bounded = λ p fits. bounded p fits (lt? (R p) hold);
      reached = λ p fits e. found.staged.reached p.state (X p) fits.0 (place p fits) (zero p fits e);
      goal = λ p fits g. rank_is p fits ∙ goal_zero p fits g;
      safe = λ p fits positive finite. let (low, same) = finite_low p fits finite in (found.staged.attacked p.state (X p) fits.0 (place p fits) (omega arith) low).0;
      attack = λ p fits positive finite.
          let (low, same) = finite_low p fits finite in
          subst (λ (m : ℕ). Attacks G most p (λ z. rank z < m)) (sym same) (attack p fits most (R p) (omega arith) (found.staged.attacked p.state (X p) fits.0 (place p fits) (omega arith) low).1);
    };
    stable = λ p fits safely positive. stable p fits safely positive (lt? (R p) hold);
  }
    where
      X : Position → ℕ
      X p = number G (stocks_of G p)

      R : Position → ℕ
      R p = rank_of row ranks p.state (number G (stocks_of G p))

      finite_low : (p : Position) → (fits : IsPosition G p) → rank p < never → (rank_of row ranks p.state (number G (stocks_of G p)) < hold) × (rank p ≡ rank_of row ranks p.state (number G (stocks_of G p)))
      finite_low p fits finite =
          let low = was_low p.state (number G (stocks_of G p)) fits.0 (place p fits) (omega (arith, rank_is p fits)) in
          (low, rank_is p fits ∙ low_same p.state (number G (stocks_of G p)) fits.0 (place p fits) low)

      bounded : (p : Position) → (fits : IsPosition G p) → Dec (rank_of row ranks p.state (number G (stocks_of G p)) < hold) → rank p ≤ never
      bounded p fits (yes low) = omega (arith, rank_is p fits, low_same p.state (number G (stocks_of G p)) fits.0 (place p fits) low)
      bounded p fits (no ne) = omega (arith, rank_is p fits, high_never p.state (number G (stocks_of G p)) fits.0 (place p fits) (omega arith))

      zero : (p : Position) → (fits : IsPosition G p) → rank p ≡ 0 → rank_of row ranks p.state (number G (stocks_of G p)) ≡ 0
      zero p fits e = let (low, same) = finite_low p fits (omega arith) in sym same ∙ e

      goal_zero : (p : Position) → (fits : IsPosition G p) → Bit goal p.state → rank_of row ranks' p.state (number G (stocks_of G p)) ≡ 0
      goal_zero p fits g =
          let e = found.staged.goals p.state (number G (stocks_of G p)) fits.0 (place p fits) g in
          low_same p.state (number G (stocks_of G p)) fits.0 (place p fits) (omega arith) ∙ e

      stable : (p : Position) → (fits : IsPosition G p) → Bit safe p.state → 0 < rank p → Dec (rank_of row ranks p.state (number G (stocks_of G p)) < hold)
          → Defends G most p (λ z. (rank p ≤ suc (rank z)) × (rank p ≡ never → rank z ≡ never))
      stable p fits safely positive (yes low) =
          let same = rank_is p fits ∙ low_same p.state (number G (stocks_of G p)) fits.0 (place p fits) low in
          defence p fits (rank_of row ranks p.state (number G (stocks_of G p))) (λ r. (rank p ≤ suc r) × (rank p ≡ never → r ≡ never))
          (λ q y state at enough. (omega (arith, same, at_least q y state at (rank_of row ranks p.state (number G (stocks_of G p))) (omega arith) enough), λ e. absurd (omega arith)))
          most (found.staged.defended p.state (number G (stocks_of G p)) fits.0 (place p fits) (omega arith) low)
      stable p fits safely positive (no ne) =
          let same = rank_is p fits ∙ high_never p.state (number G (stocks_of G p)) fits.0 (place p fits) (omega arith) in
          rests_defence p fits found.stage (λ r. (rank p ≤ suc r) × (rank p ≡ never → r ≡ never))
          (λ q y state at enough. let last = past_never q y state at enough in (omega arith, λ _. last))
          most refl (found.staged.rests p.state (number G (stocks_of G p)) fits.0 (place p fits) safely (omega arith))
