-- `joint_actions` raises four to the number of agents by a shift.
use mathlib.Core.Path.{◌≡◌, refl}
use Prim.Native.Nat.{ℕ, zero, suc, ◌*◌, ◌%◌, ◌^◌, ◌≤◌}
use native.Mathlib.Omega.{arith}
use Rattle.turns.proofs.moves.joint_actions.Goals as goal

-- there are at most three agents
power : (n : ℕ) → n ≤ 3 → (1 * 2 ^ (2 * n) % 18446744073709551616 ≡ 4 ^ n) × (4 ^ n ≤ 64)
power zero h = (refl, omega arith)
power (suc zero) h = (refl, omega arith)
power (suc (suc zero)) h = (refl, omega arith)
power (suc (suc (suc zero))) h = (refl, omega arith)
power (suc (suc (suc (suc n)))) h = absurd (omega arith)

pub returns : goal.returns
returns c = let few = power c.agents.result (omega arith) in rw (few.0, c.agents.ensures) (refl, rw c.agents.ensures at few.1)
