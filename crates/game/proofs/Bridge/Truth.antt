-- Winning at a position is truth with bounds that serve for its stock, as the row's own do for a full one: the strategies are the same, and
-- the plays are the computations. Assumes nothing.
use mathlib.Core.Logic.{◌↔◌}
use mathlib.Core.Path.{sym, ap, subst}
use Prim.Native.Nat.{ℕ, ◌<◌}
use native.Mathlib.Omega.{arith}
use Rattle.game.specs.Rbatl.{Bound, limit, unlimited, Bounds, full_stock, Strategy, IsStrategy, KeepsFrom, Within, Can, Computation}
use Rattle.game.specs.Position.{Arena, Position, places, IsPosition, full}
use Rattle.game.specs.Play.{states, Enforces}
use Rattle.game.proofs.Bridge.Proper.{Proper}
use Rattle.game.proofs.Bridge.Plays.{play_consistent, computation_play}

pub full_places : (b : Bound) → full_stock b < places b
full_places (limit n) = omega arith
full_places unlimited = omega arith

module _ (G : Arena) where
  pub full_fits : (q : ℕ) → q < G.structure.states → IsPosition G (full G q)
  full_fits q l = (l, λ r _. full_places (G.bounds r))

  -- b serves for the stock of p: the same strategies keep within it
  abbrev pub ServesFor : Position → Bounds → Type 0
  ServesFor p b = (F : Strategy) → IsStrategy G.structure G.coalition F → Within G.structure G.coalition b F ↔ KeepsFrom G.structure G.coalition G.bounds p.stock F

  -- as the row's own bounds do for a full stock
  pub full_serves : (q : ℕ) → ServesFor (full G q) G.bounds
  full_serves q F strategy = ((λ within. within), λ within. within)

  module _ (proper : Proper G.structure) (property : Computation → Type 0) (p : Position) (fits : IsPosition G p) (b : Bounds) (serves : ServesFor p b) where
    pub can_enforces : Can G.structure G.coalition b property p.state ↔ Enforces G p property
    can_enforces = (to, from)
      where
        to : Can G.structure G.coalition b property p.state → Enforces G p property
        to (F, strategy, within, met) = (
          F,
          (strategy, (serves F strategy).0 within),
          λ P starts follows. met (states G P) (ap (λ (x : Position). x.state) starts) (play_consistent G proper F strategy P follows),
        )

        from : Enforces G p property → Can G.structure G.coalition b property p.state
        from (F, (strategy, within), met) = (
          F,
          strategy,
          (serves F strategy).1 within,
          λ λs starts consistent.
              let (P, start, follows, alike) = computation_play G proper F strategy λs consistent p fits (sym starts) in
              subst property alike (met P start follows),
        )
