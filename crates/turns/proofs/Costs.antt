-- Signed costs of a team's agents, and what they come to, as differences of what is taken and what is given. Assumes nothing.
use mathlib.Core.Bool.{true, false, cond}
use mathlib.Core.Path.{◌≡◌, refl, sym, ◌∙◌, ap, ap₂, subst}
use Prim.Native.Nat.{ℕ, ◌+◌, ◌-◌, ◌≤◌, ◌<◌, min, max}
use native.Mathlib.Decide.{dec_lt}
use native.Mathlib.Omega.{arith}
use lib.Dec.{T, ltb}
use lib.IntN.{ℤ, pos, negsuc, nat_abs, sub_ℕ, ◌-ℤ◌}
use lib.Signed.{lt_z, non_neg}
use mir.Syntax.{w32}
use mir.Val.{SFits, to_z, of_z}
use mir.ValLaws.{to_z-of_z}
use borrow.Author.Tests.{ltb-true, lt-ltb, le-ltb, eq-eqb, ne_eqb}
use Rattle.block.specs.Layout as L
use Rattle.block.specs.Layout.{Block}
use Rattle.block.proofs.Signed.{sub_add, sub_less}
use Rattle.game.specs.Rbatl.{Bound, limit, unlimited, full_stock}
use Rattle.game.specs.Position.{places, full, cost, charge}
use Rattle.game.specs.Inner.Stocks.{taken, given, takes, gives}
use Rattle.game.specs.Model.{combine_of, bounds_of, arena_of}
use Rattle.turns.specs.Inner.Costs.{combined_cost, net, positive, negative, NetOf}

-- in a resource that sums, or where nothing is given, the signed costs combine as what is taken does, and what is given adds up
pub combined_is : (k c g t u : ℕ) → ((k ≡ L.sum_kind → ⊥) → (g ≡ 0) × (u ≡ 0)) → combined_cost k (sub_ℕ c g) (sub_ℕ t u) ≡ sub_ℕ (combine_of k c t) (g + u)
combined_is k c g t u none = go (dec_lt 0 k)
  where
    larger : Dec (c < t) → cond (lt_z (sub_ℕ c 0) (sub_ℕ t 0)) (sub_ℕ t 0) (sub_ℕ c 0) ≡ sub_ℕ (max c t) 0
    larger (yes l) =
        let less : ltb (c + 0) (t + 0) ≡ true = lt-ltb (c + 0) (t + 0) (omega arith) in
        rw (sub_less c 0 t 0, less) (ap (λ (n : ℕ). sub_ℕ n 0) {x = t} {y = max c t} (omega arith))
    larger (no g) =
        let more : ltb (c + 0) (t + 0) ≡ false = le-ltb (c + 0) (t + 0) (omega arith) in
        rw (sub_less c 0 t 0, more) (ap (λ (n : ℕ). sub_ℕ n 0) {x = c} {y = max c t} (omega arith))

    go : Dec (0 < k) → combined_cost k (sub_ℕ c g) (sub_ℕ t u) ≡ sub_ℕ (combine_of k c t) (g + u)
    go (no sum) = rw (eq-eqb k 0 (omega arith)) (sub_add c g t u)
    go (yes other) =
        let (ge, ue) = none (λ e. omega arith) in
        rw (ge, ue, ne_eqb k 0 (λ e. omega arith)) (larger (dec_lt c t))

-- the parts of a difference
positive_sub : (a b : ℕ) → positive (sub_ℕ a b) ≡ a - b
positive_sub a b = go (dec_lt a b)
  where
    go : Dec (a < b) → positive (sub_ℕ a b) ≡ a - b
    go (yes l) = rw (lt-ltb a b l) (omega arith)
    go (no g) = let m : b ≤ a = omega arith in rw (le-ltb a b m)

negative_sub : (a b : ℕ) → negative (sub_ℕ a b) ≡ b - a
negative_sub a b = go (dec_lt a b)
  where
    go : Dec (a < b) → negative (sub_ℕ a b) ≡ b - a
    go (yes l) = rw (lt-ltb a b l) (omega arith)
    go (no g) = let m : b ≤ a = omega arith in rw (le-ltb a b m) (omega arith)

-- what a move takes of a stock, and what it gives
pub positive_net : (bound : Bound) (c g : ℕ) → positive (net bound c g) ≡ taken bound c g
positive_net (limit n) c g = positive_sub c g
positive_net unlimited c g = refl

pub negative_net : (bound : Bound) (c g : ℕ) → min (full_stock bound) (negative (net bound c g)) ≡ given bound c g
negative_net (limit n) c g = ap (min n) (negative_sub c g)
negative_net unlimited c g = refl

-- a number whose parts are small is held in 32 bits
parts_fit : (z : ℤ) → positive z ≤ 45 → negative z ≤ 45 → SFits w32 z
parts_fit (pos n) takes gives = record { sfits = omega arith }
parts_fit (negsuc n) takes gives = record { sfits = omega arith }

pub net_held : {b : Block} {i s m j : ℕ} {r : ℤ} → NetOf b i s m j r → to_z w32 (of_z w32 r) ≡ r
net_held {r = r} n = to_z-of_z w32 r (parts_fit r n.takes_few n.gives_few)

-- the cost of a move in a resource that the row limits, and in one that it does not
module _ (b : Block) (i s m j : ℕ) (r : ℤ) where
  abbrev c : ℕ
  c = cost (arena_of b i) (full (arena_of b i) s) m j

  abbrev g : ℕ
  g = charge (arena_of b i) (full (arena_of b i) s) m j

  pub net_unlimited : bounds_of b i j ≡ unlimited → r ≡ sub_ℕ 0 0 → NetOf b i s m j r
  net_unlimited e is = record {
    is = is ∙ sym (ap (λ (x : Bound). net x c g) e);
    takes_few = subst (λ (z : ℤ). positive z ≤ 45) (sym is) (omega arith);
    gives_few = subst (λ (z : ℤ). negative z ≤ 45) (sym is) (omega arith);
  }

  pub net_limited : {n : ℕ} → bounds_of b i j ≡ limit n → r ≡ sub_ℕ c g → c ≤ 45 → g ≤ 45 → NetOf b i s m j r
  net_limited e is takes gives = record {
    is = is ∙ sym (ap (λ (x : Bound). net x c g) e);
    takes_few = subst (λ (z : ℤ). positive z ≤ 45) (sym is) (omega (arith, positive_sub c g));
    gives_few = subst (λ (z : ℤ). negative z ≤ 45) (sym is) (omega (arith, negative_sub c g));
  }

  -- what it takes, and what it gives of the stocks that there are
  module _ (n : NetOf b i s m j r) where
    pub net_takes : positive r ≡ (takes (arena_of b i) (full (arena_of b i) s) m).stock j
    net_takes = ap positive n.is ∙ positive_net (bounds_of b i j) c g

    pub net_gives : (w : ℕ) → w ≡ places (bounds_of b i j) → min (w - 1) (negative r) ≡ (gives (arena_of b i) (full (arena_of b i) s) m).stock j
    net_gives w is = ap₂ min (ap (λ (x : ℕ). x - 1) is ∙ full_places (bounds_of b i j)) (ap negative n.is) ∙ negative_net (bounds_of b i j) c g
      where
        full_places : (x : Bound) → places x - 1 ≡ full_stock x
        full_places (limit k) = omega arith
        full_places unlimited = omega arith

-- the parts by the sign, as the code tells it
never_less : {A : Type 0} (n : ℕ) → ltb n 0 ≡ true → A
never_less n e = absurd (omega (arith, ltb-true n 0 e))

pub below_takes : (z : ℤ) → lt_z z (pos 0) ≡ true → positive z ≡ 0
below_takes (pos n) e = never_less n e
below_takes (negsuc n) e = refl

pub above_gives : (z : ℤ) → lt_z z (pos 0) ≡ false → negative z ≡ 0
above_gives (pos n) e = refl
above_gives (negsuc n) e = let y : ◌≡◌ {A = ℕ} 0 1 = cc in absurd (omega arith)

pub above_takes : (z : ℤ) → SFits w32 z → lt_z z (pos 0) ≡ false → T (non_neg z) × (nat_abs z ≡ positive z) × (positive z < 2147483648)
above_takes (pos n) fits e = (tt, refl, fits.sfits)
above_takes (negsuc n) fits e = let y : ◌≡◌ {A = ℕ} 0 1 = cc in absurd (omega arith)

pub below_gives : (z : ℤ) → lt_z z (pos 0) ≡ true → pos 0 -ℤ z ≡ pos (negative z)
below_gives (pos n) e = never_less n e
below_gives (negsuc n) e = ap pos (omega arith)
