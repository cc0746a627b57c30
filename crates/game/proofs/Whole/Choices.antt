-- From what can be forced, a move for each position; from what can be answered, a counter-strategy. Elsewhere both idle. Assumes nothing.
use Prim.Native.Nat.{ℕ}
use native.Mathlib.Omega.{arith}
use mathlib.Core.Path.{◌≡◌}
use Rattle.game.specs.Rbatl.{Bound, limit, unlimited, Pays}
use Rattle.game.specs.Position.{Arena, Position, opponents, IsPosition, Reply, Allowed, outcome}
use Rattle.game.specs.Inner.Facts.{CanForce, CanAnswer}
use Rattle.game.proofs.Bridge.Proper.{Proper}
use Rattle.game.proofs.Bridge.Moves.{idle_move, idle_costs_nothing}
use Rattle.game.proofs.Local.Decidable.{position?, allowed?}

module _ (G : Arena) (proper : Proper G.structure) where
  pub idle_allowed : (p : Position) → IsPosition G p → Allowed G p 0
  idle_allowed p fits = (idle_move G.structure proper G.coalition p.state fits.0, λ r l. free (G.bounds r) _ _ _ (idle_costs_nothing G.structure proper G.coalition p.state r fits.0 l G.structure.agents (omega arith)))
    where
      free : (b : Bound) (s c g : ℕ) → c ≡ 0 → Pays b s c g
      free (limit n) s c g e = omega arith
      free unlimited s c g e = tt

  pub idle_reply : (p : Position) → IsPosition G p → Reply G p 0
  idle_reply p fits = idle_move G.structure proper (opponents G.coalition) p.state fits.0

  module _ (Region : Position → Type 0) (region? : (p : Position) → IsPosition G p → Dec (Region p)) (Result : Position → Position → Type 0) where
    -- a move for each position, of those that force the result where the position is in the region
    pub record Chosen (p : Position) : Type 0 where
      pub pick : ℕ
      pub allowed : IsPosition G p → Allowed G p pick
      pub forced : IsPosition G p → Region p → (r : ℕ) → Reply G p r → Result p (outcome G p pick r)

    pub choose : ((p : Position) → IsPosition G p → Region p → CanForce G p (Result p)) → (p : Position) → Chosen p
    choose force p = go (position? G p)
      where
        inside : (fits : IsPosition G p) → Dec (Region p) → Chosen p
        inside fits (yes h) = let f = force p fits h in record { pick = f.0; allowed = λ _. f.1; forced = λ _ _. f.2 }
        inside fits (no h) = record { pick = 0; allowed = idle_allowed p; forced = λ _ h'. absurd (h h') }

        go : Dec (IsPosition G p) → Chosen p
        go (yes fits) = inside fits (region? p fits)
        go (no fits) = record { pick = 0; allowed = λ fits'. absurd (fits fits'); forced = λ fits'. absurd (fits fits') }

    -- a reply to each move, of those that have the result where the position is in the region and the move is affordable
    pub record Answer (p : Position) (m : ℕ) : Type 0 where
      pub reply : ℕ
      pub available : IsPosition G p → Reply G p reply
      pub answered : IsPosition G p → Region p → Allowed G p m → Result p (outcome G p m reply)

    pub answer : ((p : Position) → IsPosition G p → Region p → CanAnswer G p (Result p)) → (p : Position) (m : ℕ) → Answer p m
    answer can p m = go (position? G p) (allowed? G p m)
      where
        inside : (fits : IsPosition G p) → Allowed G p m → Dec (Region p) → Answer p m
        inside fits a (yes h) = let r = can p fits h m a in record { reply = r.0; available = λ _. r.1; answered = λ _ _ _. r.2 }
        inside fits a (no h) = record { reply = 0; available = idle_reply p; answered = λ _ h'. absurd (h h') }

        go : Dec (IsPosition G p) → Dec (Allowed G p m) → Answer p m
        go (yes fits) (yes a) = inside fits a (region? p fits)
        go (yes fits) (no a) = record { reply = 0; available = idle_reply p; answered = λ _ _ a'. absurd (a a') }
        go (no fits) d = record { reply = 0; available = λ fits'. absurd (fits fits'); answered = λ fits'. absurd (fits fits') }
