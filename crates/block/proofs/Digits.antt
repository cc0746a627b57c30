-- A joint action's digits, as the code computes them, and statements about every agent.
-- Assumes nothing.
use mathlib.Core.Path.{◌≡◌}
use Prim.Native.Nat.{ℕ, zero, suc, ◌<◌, ◌%◌}
use native.Mathlib.Omega.{arith}
use Rattle.block.specs.Layout.{digit, max_agents, max_actions}

-- the code does not divide by 1
pub digit_zero : (joint : ℕ) → digit joint 0 ≡ joint % max_actions
digit_zero joint = omega arith

pub each_agent : (P : ℕ → Type 0) → P 0 → P 1 → P 2 → (a : ℕ) → a < max_agents → P a
each_agent P p q r zero h = p
each_agent P p q r (suc zero) h = q
each_agent P p q r (suc (suc zero)) h = r
each_agent P p q r (suc (suc (suc a))) h = absurd (omega arith)
