-- A finite rank is below the number of positions: every smaller rank stands at some position. Assumes nothing.
use mathlib.Core.Path.{◌≡◌, ap}
use Prim.Native.Nat.{ℕ, zero, suc, ◌-◌, ◌<◌}
use native.Mathlib.Decide.{ℕ_discrete}
use native.Mathlib.Omega.{arith}
use Rattle.game.specs.Position.{Arena, Position, IsPosition, number, positions}
use Rattle.game.specs.Table.{never}
use Rattle.game.specs.Inner.Facts.{CanForce, CanAnswer, Ranked}
use Rattle.game.proofs.Numbers.Pigeonhole.{pigeonhole}
use Rattle.game.proofs.Bridge.Proper.{Proper}
use Rattle.game.proofs.Local.Same.{number_below}
use Rattle.game.proofs.Bridge.Plays.{outcome_fits}

-- what one side forces and the other answers come together at an outcome
abbrev pub Meets : Arena → (Position → (Position → Type 0) → Type 0) → (Position → (Position → Type 0) → Type 0) → Type 1
Meets G Attack Defend = (p : Position) → IsPosition G p → (U W : Position → Type 0) → Attack p U → Defend p W → (x : Position) × IsPosition G x × U x × W x

module _ (G : Arena) (proper : Proper G.structure) where
  pub force_answer : Meets G (CanForce G) (CanAnswer G)
  force_answer p fits U W (m, a, u) answer =
      let r = answer m a in
      (_, outcome_fits G proper p m r.0 fits a.0 r.1, u r.0 r.1, r.2)

  pub answer_force : Meets G (CanAnswer G) (CanForce G)
  answer_force p fits U W answer (m, a, w) =
      let r = answer m a in
      (_, outcome_fits G proper p m r.0 fits a.0 r.1, r.2, w r.0 r.1)

module _ (G : Arena) (Attack Defend : Position → (Position → Type 0) → Type 0) (meets : Meets G Attack Defend) (Safe Goal : ℕ → Type 0) (words : ℕ → ℕ) (ranked : Ranked G Safe Goal (λ p. words (number G p)) Attack Defend) where
  -- a position of the next smaller rank
  smaller : (p : Position) → IsPosition G p → words (number G p) < never → (x : Position) × IsPosition G x × (words (number G x) ≡ words (number G p) - 1)
  smaller p fits finite = go (ℕ_discrete (words (number G p)) 0)
    where
      go : Dec (words (number G p) ≡ 0) → (x : Position) × IsPosition G x × (words (number G x) ≡ words (number G p) - 1)
      go (yes e) = (p, fits, omega arith)
      go (no e) =
          let positive : 0 < words (number G p) = omega arith in
          let (x, inside, low, high) = meets p fits _ _ (ranked.sound.attack p fits positive finite) (ranked.stable p fits (ranked.sound.safe p fits positive finite) positive) in
          (x, inside, omega arith)

  module _ (p : Position) (fits : IsPosition G p) (finite : words (number G p) < never) where
    down : (d : ℕ) → (x : Position) × IsPosition G x × (words (number G x) ≡ words (number G p) - d)
    down zero = (p, fits, omega arith)
    down (suc d) =
        let (y, inside, e) = down d in
        let (x, inside', e') = smaller y inside (omega arith) in
        (x, inside', omega arith)

    pub rank_below : words (number G p) < positions G
    rank_below = pigeonhole (positions G) (suc (words (number G p))) (λ d. number G (down d).0) (λ d _. number_below G (down d).0 (down d).1) different
      where
        different : (i j : ℕ) → i < suc (words (number G p)) → j < suc (words (number G p)) → number G (down i).0 ≡ number G (down j).0 → i ≡ j
        different i j li lj e = omega (arith, ap words e, (down i).2, (down j).2)
