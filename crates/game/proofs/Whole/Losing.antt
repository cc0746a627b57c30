-- The opponents' side, and why nobody is faster than the ranks: from the rank facts of a table, a counter-strategy that wins every play
-- whose moves are affordable where the table claims nothing; for until one that puts the coalition off, for always a strategy that puts the opponents off. Assumes nothing.
use mathlib.Core.Logic.Dec
use mathlib.Core.Logic.{◌⊎◌, inl, inr}
use mathlib.Core.Path.{◌≡◌, ap}
use Prim.Native.Nat.{ℕ, suc, ◌≤◌, ◌<◌}
use native.Mathlib.Decide.{dec_lt, ℕ_discrete}
use native.Mathlib.Omega.{arith}
use Rattle.game.specs.Rbatl.{Computation, Strategy}
use Rattle.game.specs.Position.{Arena, Position, IsPosition}
use Rattle.game.specs.Play.{Objective, next, always, until, Play, CounterStrategy, states, From, Follows, Answers, IsCounterStrategy, Afforded, KeepsWithin, Forces, ForcesAll}
use Rattle.game.specs.Table.{Table, never, rank_at, LostOn, Unmet, NoSooner}
use Rattle.game.specs.Inner.Facts.{CanForce, CanAnswer, Claims, RankFacts, RowsDecided}
use Rattle.game.proofs.Bridge.Proper.{Proper}
use Rattle.game.proofs.Numbers.Decide.{not?}
use Rattle.game.proofs.Numbers.Ranks.{reaches, puts_off, never_reaches}
use Rattle.game.proofs.Bridge.Plays.{at_fits, strategy_paid, play_against}
use Rattle.game.proofs.Whole.Realise.{forced_along, answered_along}

-- the rank falls by one at most, and not at all from never
abbrev pub Kept : Arena → Table → Position → Position → Type 0
Kept G X p x = (rank_at G X p ≤ suc (rank_at G X x)) × (rank_at G X p ≡ never → rank_at G X x ≡ never)

module _ (G : Arena) (proper : Proper G.structure) where
  -- a strategy within the stock pays for its moves
  pub forces_strategies : (p : Position) (property : Computation → Type 0) → ForcesAll G p property → Forces G p property
  forces_strategies p property (ρ, counter, all) = (ρ, counter, λ F keeps P from follows answers. all P from (strategy_paid G proper p F keeps P from follows) answers)

module _ (G : Arena) (proper : Proper G.structure) (X : Table) where
  module _ (left right : ℕ → Type 0) (ranks : RankFacts G (until left right) (rank_at G X)) (rows : RowsDecided G (until left right)) where
    -- a counter-strategy that keeps the rank up
    keep_up : (ρ : CounterStrategy) × IsCounterStrategy G ρ
        × ((P : Play G) → Answers G ρ P → Afforded G P → (i : ℕ) → left (states G P i) × (0 < rank_at G X (P.at i)) → Kept G X (P.at i) (P.at (suc i)))
    keep_up =
        answered_along G proper (λ p. left p.state × (0 < rank_at G X p)) (λ p fits. Dec.and (rows.0 p.state fits.0) (dec_lt 0 (rank_at G X p))) (Kept G X)
        (λ p fits region. ranks.stable p fits region.0 region.1)

    until_goal : (P : Play G) (i : ℕ) → right (states G P i) → rank_at G X (P.at i) ≡ 0
    until_goal P i r = ranks.sound.goal (P.at i) (at_fits G proper P i) r

    until_lost : (p : Position) → IsPosition G p → (rank_at G X p < never → ⊥) → ForcesAll G p (LostOn (until left right) (rank_at G X p))
    until_lost p fits unclaimed = (keep_up.0, keep_up.1, lost)
      where
        lost : (P : Play G) → From G p P → Afforded G P → Answers G keep_up.0 P → LostOn (until left right) (rank_at G X p) (states G P)
        lost P from paid answers (k, r, before) =
            never_reaches never (λ i. left (states G P i)) (λ i. right (states G P i)) (λ i. rank_at G X (P.at i)) (until_goal P) (omega arith) start stays k (k, omega arith, r, before)
          where
            start : rank_at G X (P.at 0) ≡ never
            start = rw from (omega (arith, ranks.sound.bounded p fits))

            stays : (i : ℕ) → left (states G P i) → rank_at G X (P.at i) ≡ never → rank_at G X (P.at (suc i)) ≡ never
            stays i l e = (keep_up.2 P answers paid i (l, omega arith)).1 e

    until_put_off : (p : Position) → ForcesAll G p (λ λs. Unmet left right λs (rank_at G X p))
    until_put_off p = (keep_up.0, keep_up.1, slow)
      where
        slow : (P : Play G) → From G p P → Afforded G P → Answers G keep_up.0 P → Unmet left right (states G P) (rank_at G X p)
        slow P from paid answers k l =
            puts_off never (λ i. left (states G P i)) (λ i. right (states G P i)) (λ i. rank_at G X (P.at i)) (until_goal P)
            (λ i s positive. (keep_up.2 P answers paid i (s, positive)).0)
            k (rw from l)

    until_no_sooner : (p : Position) → IsPosition G p → NoSooner G (until left right) p (rank_at G X p)
    until_no_sooner p fits = (against, until_put_off p)
      where
        against : (F : Strategy) → KeepsWithin G p F → (P : Play G) × From G p P × Follows G F P × Unmet left right (states G P) (rank_at G X p)
        against F keeps =
            let (ρ, counter, slow) = until_put_off p in
            let (P, from, follows, answers) = play_against G proper F keeps.0 ρ counter p fits in
            (P, from, follows, slow P from (strategy_paid G proper p F keeps P from follows) answers)

  module _ (left : ℕ → Type 0) (ranks : RankFacts G (always left) (rank_at G X)) (left? : RowsDecided G (always left)) where
    -- a counter-strategy that lowers the rank
    lower : (ρ : CounterStrategy) × IsCounterStrategy G ρ
        × ((P : Play G) → Answers G ρ P → Afforded G P → (i : ℕ) → (0 < rank_at G X (P.at i)) × (rank_at G X (P.at i) < never) → rank_at G X (P.at (suc i)) < rank_at G X (P.at i))
    lower =
        answered_along G proper (λ p. (0 < rank_at G X p) × (rank_at G X p < never)) (λ p _. Dec.and (dec_lt 0 (rank_at G X p)) (dec_lt (rank_at G X p) never)) (λ p x. rank_at G X x < rank_at G X p)
        (λ p fits region. ranks.sound.attack p fits region.0 region.1)

    always_lost : (p : Position) → IsPosition G p → (rank_at G X p ≡ never → ⊥) → ForcesAll G p (LostOn (always left) (rank_at G X p))
    always_lost p fits unclaimed = (lower.0, lower.1, lost)
      where
        lost : (P : Play G) → From G p P → Afforded G P → Answers G lower.0 P → LostOn (always left) (rank_at G X p) (states G P)
        lost P from paid answers =
            let found = reaches never (λ _. Unit {0}) (λ i. left (states G P i) → ⊥) (λ i. rank_at G X (P.at i))
            (λ i e. ranks.sound.reached (P.at i) (at_fits G proper P i) e)
            (λ i positive finite. (tt, lower.2 P answers paid i (positive, finite)))
            (rw from (omega (arith, ranks.sound.bounded p fits))) in
            (found.0, omega (arith, found.1, ap (rank_at G X) from), found.2)

    always_no_sooner : (p : Position) → IsPosition G p → NoSooner G (always left) p (rank_at G X p)
    always_no_sooner p fits = (resist.0, resist.1, slow)
      where
        -- a strategy that keeps the rank up
        resist : (F : Strategy) × KeepsWithin G p F × ((P : Play G) → From G p P → Follows G F P → (i : ℕ) → 0 < rank_at G X (P.at i) → Kept G X (P.at i) (P.at (suc i)))
        resist = forced_along G proper (λ x. 0 < rank_at G X x) (λ x _. dec_lt 0 (rank_at G X x)) (Kept G X) (λ x fits' positive. ranks.stable x fits' tt positive) p fits

        slow : (P : Play G) → From G p P → Follows G resist.0 P → (k : ℕ) → k < rank_at G X p → left (states G P k)
        slow P from follows k l = go (left? (states G P k) (at_fits G proper P k).0)
          where
            go : Dec (left (states G P k)) → left (states G P k)
            go (yes h) = h
            go (no fails) =
                absurd (puts_off never (λ _. Unit {0}) (λ i. left (states G P i) → ⊥) (λ i. rank_at G X (P.at i))
                (λ i f. ranks.sound.goal (P.at i) (at_fits G proper P i) f)
                (λ i _ positive. (resist.2 P from follows i positive).0)
                k (rw from l) (k, omega arith, fails, λ j _. tt))

  next_lost : (left : ℕ → Type 0) → RankFacts G (next left) (rank_at G X) → (p : Position) → IsPosition G p → (rank_at G X p ≡ 1 → ⊥) → ForcesAll G p (LostOn (next left) (rank_at G X p))
  next_lost left ranks p fits unclaimed = (spoil.0, spoil.1, λ P from paid answers. spoil.2 P answers paid 0 (rw from unclaimed))
    where
      spoil : (ρ : CounterStrategy) × IsCounterStrategy G ρ
          × ((P : Play G) → Answers G ρ P → Afforded G P → (i : ℕ) → (rank_at G X (P.at i) ≡ 1 → ⊥) → left (states G P (suc i)) → ⊥)
      spoil = answered_along G proper (λ x. rank_at G X x ≡ 1 → ⊥) (λ x _. not? (ℕ_discrete (rank_at G X x) 1)) (λ x y. left y.state → ⊥) (λ x fits' region. pick x region (ranks x fits'))
        where
          pick : (x : Position) → (rank_at G X x ≡ 1 → ⊥)
              → ((rank_at G X x ≡ 1) × CanForce G x (λ y. left y.state)) ⊎ ((rank_at G X x ≡ never) × CanAnswer G x (λ y. left y.state → ⊥))
              → CanAnswer G x (λ y. left y.state → ⊥)
          pick x region (inl (e, _)) = absurd (region e)
          pick x region (inr (_, can)) = can

  -- where the table claims nothing the opponents win, an always row within the rank
  pub unclaimed_lost : (t : Objective) → RankFacts G t (rank_at G X) → RowsDecided G t → (p : Position) → IsPosition G p → (Claims G X t p → ⊥) → ForcesAll G p (LostOn t (rank_at G X p))
  unclaimed_lost (until left right) ranks rows = until_lost left right ranks rows
  unclaimed_lost (always left) ranks rows = always_lost left ranks rows
  unclaimed_lost (next left) ranks _ = next_lost left ranks

  -- and nobody gets there in fewer moves than the rank
  pub no_sooner : (t : Objective) → RankFacts G t (rank_at G X) → RowsDecided G t → (p : Position) → IsPosition G p → NoSooner G t p (rank_at G X p)
  no_sooner (until left right) ranks rows = until_no_sooner left right ranks rows
  no_sooner (always left) ranks rows = always_no_sooner left ranks rows
  no_sooner (next left) ranks _ = λ p fits. tt
