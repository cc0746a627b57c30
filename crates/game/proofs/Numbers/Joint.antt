-- The number of a joint action and its digits: each gives the other back, and a joint action is the coalition's part and the
-- opponents' part together. Assumes nothing.
use mathlib.Core.Bool.{Bool, true, false, cond, not}
use mathlib.Core.Path.{◌≡◌, refl, ◌∙◌, ap}
use Prim.Native.Nat.{ℕ, zero, suc, ◌+◌, ◌/◌, ◌%◌, ◌^◌, ◌<◌}
use native.Mathlib.Nat.{div-div-eq-div-mul, div-one, pow-succ'}
use native.Mathlib.Omega.{arith}
use Rattle.block.specs.Layout.{digit}
use Rattle.game.specs.Rbatl.{Joint, Coalition}
use Rattle.game.specs.Position.{joint, opponents, part}

digit_zero : (m : ℕ) → digit m 0 ≡ m % 4
digit_zero m = rw div-one

digit_suc : (m a : ℕ) → digit m (suc a) ≡ digit (m / 4) a
digit_suc m a = rw (pow-succ', ← div-div-eq-div-mul m 4 (4 ^ a))

pub joint_cong : (n : ℕ) (σ τ : Joint) → ((a : ℕ) → a < n → σ a ≡ τ a) → joint n σ ≡ joint n τ
joint_cong zero σ τ e = refl
joint_cong (suc n) σ τ e =
    let first : σ 0 ≡ τ 0 = e 0 (omega arith) in
    let rest = joint_cong n (λ a. σ (suc a)) (λ a. τ (suc a)) (λ a l. e (suc a) (omega arith)) in
    omega arith

pub joint_below : (n : ℕ) (σ : Joint) → ((a : ℕ) → a < n → σ a < 4) → joint n σ < 4 ^ n
joint_below zero σ h = omega arith
joint_below (suc n) σ h =
    let rest = joint_below n (λ a. σ (suc a)) (λ a l. h (suc a) (omega arith)) in
    omega (arith, h 0 (omega arith))

-- the number of a number's digits
pub joint_digit : (n m : ℕ) → m < 4 ^ n → joint n (digit m) ≡ m
joint_digit zero m l = omega arith
joint_digit (suc n) m l =
    let rest : joint n (digit (m / 4)) ≡ m / 4 = joint_digit n (m / 4) (omega arith) in
    let same : joint n (λ a. digit m (suc a)) ≡ joint n (digit (m / 4)) = joint_cong n (λ a. digit m (suc a)) (digit (m / 4)) (λ a _. digit_suc m a) in
    omega (arith, digit_zero m)

-- the digits of a joint action's number
pub digit_joint : (n : ℕ) (σ : Joint) → ((a : ℕ) → a < n → σ a < 4) → (a : ℕ) → a < n → digit (joint n σ) a ≡ σ a
digit_joint zero σ h a l = absurd (omega arith)
digit_joint (suc n) σ h zero l = omega (arith, digit_zero (joint (suc n) σ), h 0 (omega arith))
digit_joint (suc n) σ h (suc a) l =
    let tail : Joint = λ a. σ (suc a) in
    let small : σ 0 < 4 = h 0 (omega arith) in
    let shifted : joint (suc n) σ / 4 ≡ joint n tail = omega arith in
    digit_suc (joint (suc n) σ) a ∙ ap (λ (m : ℕ). digit m a) shifted ∙ digit_joint n tail (λ a l. h (suc a) (omega arith)) a (omega arith)

-- a joint action's number is the sum of its two parts
pub joint_parts : (n : ℕ) (A : Coalition) (σ : Joint) → joint n (part A σ) + joint n (part (opponents A) σ) ≡ joint n σ
joint_parts zero A σ = refl
joint_parts (suc n) A σ =
    let rest = joint_parts n (λ a. A (suc a)) (λ a. σ (suc a)) in
    let first : part A σ 0 + part (opponents A) σ 0 ≡ σ 0 = go (A 0) in
    omega arith
  where
    go : (t : Bool) → cond t (σ 0) 0 + cond (not t) (σ 0) 0 ≡ σ 0
    go true = omega arith
    go false = omega arith
