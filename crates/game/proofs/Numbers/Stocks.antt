-- One resource along a play: where each cost is paid by the stock then left, what was taken so far stays within the first stock and what
-- was given. Limited or not, one law. Assumes nothing.
use mathlib.Core.Logic.{◌↔◌}
use mathlib.Core.Path.{◌≡◌, ◌∙◌, ap}
use Prim.Native.Nat.{ℕ, zero, suc, ◌+◌, ◌-◌, ◌≤◌, ◌<◌, min}
use native.Mathlib.Decide.{dec_lt}
use native.Mathlib.Omega.{arith}
use Rattle.game.specs.Rbatl.{Bound, limit, unlimited, full_stock, Pays, remaining}
use Rattle.game.specs.Position.{places}
use Rattle.game.specs.Inner.Stocks.{taken, given}

-- stock, cost and charge of one resource at each moment, and what was taken and given before
pub record Ledger (bound : Bound) (stock cost charge spent charged : ℕ → ℕ) : Type 0 where
  pub left : (i : ℕ) → stock (suc i) ≡ remaining bound (stock i) (cost i) (charge i)
  pub none : spent 0 ≡ 0
  pub adds : (i : ℕ) → spent (suc i) ≡ spent i + cost i
  pub nothing : charged 0 ≡ 0
  pub gives : (i : ℕ) → charged (suc i) ≡ charged i + charge i

module _ (stock cost charge spent charged : ℕ → ℕ) where
  what_is_left : (k : ℕ) → Ledger (limit k) stock cost charge spent charged → ((i : ℕ) → Pays (limit k) (stock i) (cost i) (charge i)) → (n : ℕ) → stock n + spent n ≤ stock 0 + charged n
  what_is_left k L paid zero = omega (arith, L.none)
  what_is_left k L paid (suc n) = omega (arith, what_is_left k L paid n, L.left n, L.adds n, L.gives n, paid n)

  pub affordable_within : (bound : Bound) → Ledger bound stock cost charge spent charged → ((i : ℕ) → Pays bound (stock i) (cost i) (charge i)) → (n : ℕ) → Pays bound (stock 0) (spent n) (charged n)
  affordable_within unlimited L paid n = tt
  affordable_within (limit k) L paid n = omega (arith, what_is_left k L paid n)

-- what remains is a stock place
pub remaining_fits : (bound : Bound) (s c g : ℕ) → s < places bound → remaining bound s c g < places bound
remaining_fits (limit k) s c g l = omega arith
remaining_fits unlimited s c g l = omega arith

-- a stock pays a move exactly if it has what the move takes, and then it has that less, and what is given more, as far as there is room
pub taken_pays : (bound : Bound) (s c g : ℕ) → (taken bound c g ≤ s) ↔ Pays bound s c g
taken_pays (limit k) s c g = ((λ h. omega arith), λ h. omega arith)
taken_pays unlimited s c g = ((λ h. tt), λ h. omega arith)

pub remaining_net : (bound : Bound) (s c g : ℕ) → Pays bound s c g → remaining bound s c g ≡ min (full_stock bound) (s - taken bound c g + given bound c g)
remaining_net (limit k) s c g paid = go (dec_lt c g)
  where
    room : (x e : ℕ) → min k (x + e) ≡ min k (x + min k e)
    room x e = omega arith

    go : Dec (c < g) → min k (s + g - c) ≡ min k (s - (c - g) + min k (g - c))
    go (yes less) = ap (min k) {x = s + g - c} {y = s - (c - g) + (g - c)} (omega arith) ∙ room (s - (c - g)) (g - c)
    go (no more) = ap (min k) {x = s + g - c} {y = s - (c - g) + (g - c)} (omega arith) ∙ room (s - (c - g)) (g - c)
remaining_net unlimited s c g paid = omega arith
