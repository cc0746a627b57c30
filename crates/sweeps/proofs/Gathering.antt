-- Gathering values: nothing offered, one more offer, and one step after another. Assumes nothing.
use mathlib.Core.Bool.{Bool, true, false}
use mathlib.Core.Logic.{◌⊎◌, inl, inr, ⊎_elim}
use mathlib.Core.Path.{◌≡◌, refl, sym, ◌∙◌, subst}
use Prim.Native.Nat.{ℕ, ◌+◌, ◌<◌}
use native.Mathlib.Omega.{arith}
use Rattle.ways.specs.Extremes.{Beyond, Further, Extreme}
use Rattle.game.proofs.Numbers.Decide.{eq?}
use Rattle.ways.proofs.Largest.{beyond_equal, beyond_trans}
use Rattle.sweeps.specs.Values.{Gathered, OneOf}

pub extreme_one : (most : Bool) (n : ℕ) (f : ℕ → ℕ) (v w : ℕ) → Extreme most n f v → Extreme most n f w → v ≡ w
extreme_one true n f v w a b = let (j, l, e) = a.taken in let (k, l', e') = b.taken in omega (arith, a.beyond k l', b.beyond j l)
extreme_one false n f v w a b = let (j, l, e) = a.taken in let (k, l', e') = b.taken in omega (arith, a.beyond k l', b.beyond j l)

module _ (most : Bool) where
  pub gathered_nothing : (Offers : ℕ → Type 0) → ((v : ℕ) → Offers v → ⊥) → (v : ℕ) → Gathered most Offers v v
  gathered_nothing Offers nothing v = record { best = λ w offer. absurd (nothing w offer); kept = beyond_equal most v v refl; some = inl refl }

  pub gathered_none : (offers : ℕ → ℕ → Type 0) (v : ℕ) → Gathered most (OneOf 0 offers) v v
  gathered_none offers = gathered_nothing (OneOf 0 offers) (λ v (k, below, _). omega arith)

  pub gathered_next : (offers : ℕ → ℕ → Type 0) (k first v w : ℕ) → Gathered most (OneOf k offers) first v → Gathered most (offers k) v w → Gathered most (OneOf (k + 1) offers) first w
  gathered_next offers k first v w before one = record {
    best = λ u (j, below, offer). best u j below offer (eq? j k);
    kept = beyond_trans most first v w before.kept one.kept;
    some = ⊎_elim (λ e. earlier e before.some) (λ offer. inr (k, omega arith, offer)) one.some;
  }
    where
      best : (u j : ℕ) → j < k + 1 → offers j u → Dec (j ≡ k) → Beyond most u w
      best u j below offer (yes e) = one.best u (subst (λ (y : ℕ). offers y u) e offer)
      best u j below offer (no ne) = beyond_trans most u v w (before.best u (j, omega arith, offer)) one.kept

      earlier : w ≡ v → (v ≡ first) ⊎ OneOf k offers v → (w ≡ first) ⊎ OneOf (k + 1) offers w
      earlier e (inl same) = inl (e ∙ same)
      earlier e (inr (j, below, offer)) = inr (j, omega arith, subst (offers j) (sym e) offer)

  -- one value is offered
  pub gathered_one : (Offers : ℕ → Type 0) (first v w : ℕ) → Further most v first w → Offers v → ((u : ℕ) → Offers u → u ≡ v) → Gathered most Offers first w
  gathered_one Offers first v w step offer only = record {
    best = λ u o. subst (λ (z : ℕ). Beyond most z w) (sym (only u o)) step.first;
    kept = step.second;
    some = ⊎_elim (λ e. inr (subst Offers (sym e) offer)) inl step.taken;
  }
