-- When the states of a play so far decide the row. Assumes nothing.
use mathlib.Core.Logic.{inl, inr}
use mathlib.Core.Path.{◌≡◌}
use Prim.Native.Nat.{ℕ, suc, ◌≤◌, ◌<◌}
use native.Mathlib.Decide.{dec_le}
use native.Mathlib.Omega.{arith}
use Rattle.game.specs.Rbatl.{Computation}
use Rattle.game.specs.Play.{next, always, until, MetWithin, FalseWithin, Settled}
use Rattle.game.proofs.Numbers.Ranks.{Spoilt}

module _ (left : ℕ → Type 0) (λs : Computation) (n : ℕ) where
  pub met_settled : (right : ℕ → Type 0) → MetWithin left right λs n → Settled (until left right) λs n
  met_settled right (k, l, r, before) = inl λ μs same. (k, rw (same k l) r, λ j u. rw (same j (omega arith)) (before j u))

  pub spoilt_settled : (right : ℕ → Type 0) → Spoilt (λ i. left (λs i)) (λ i. right (λs i)) n → Settled (until left right) λs n
  spoilt_settled right (j, l, fails, none) = inr λ μs same met. go μs same met (dec_le met.0 j)
    where
      go : (μs : Computation) → ((i : ℕ) → i ≤ n → μs i ≡ λs i) → (met : (k : ℕ) × right (μs k) × ((i : ℕ) → i < k → left (μs i))) → Dec (met.0 ≤ j) → ⊥
      go μs same (k, r, before) (yes h) = none k h (rw (same k (omega arith)) at r)
      go μs same (k, r, before) (no h) = fails (rw (same j (omega arith)) at (before j (omega arith)))

  pub false_settled : FalseWithin left λs n → Settled (always left) λs n
  false_settled (k, l, fails) = inr λ μs same all. fails (rw (same k l) at (all k))

  pub next_true_settled : left (λs 1) → Settled (next left) λs (suc n)
  next_true_settled h = inl λ μs same. rw (same 1 (omega arith)) h

  pub next_false_settled : (left (λs 1) → ⊥) → Settled (next left) λs (suc n)
  next_false_settled fails = inr λ μs same h. fails (rw (same 1 (omega arith)) at h)
