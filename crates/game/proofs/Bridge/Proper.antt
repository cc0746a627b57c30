-- What the theorems ask of a structure: definition 1 of document 003 with its idle action, and document 01's sizes. Every block that
-- passes has it. Assumes nothing.
use mathlib.Core.Path.{◌≡◌}
use Prim.Native.Nat.{ℕ, ◌≤◌, ◌<◌}
use Rattle.game.specs.Rbatl.{Joint, Structure, Available}

pub record Proper (S : Structure) : Type 0 where
  pub few_agents : S.agents ≤ 3
  pub acts : (q a : ℕ) → q < S.states → a < S.agents → (1 ≤ S.actions q a) × (S.actions q a ≤ 4)
  pub idle_free : (q a r : ℕ) → q < S.states → a < S.agents → r < S.resources → S.cost q a 0 r ≡ 0
  pub nothing_combined : (r : ℕ) → S.combine r 0 0 ≡ 0
  pub next_fits : (q : ℕ) (m : Joint) → q < S.states → Available S q m → S.next q m < S.states
  pub next_agrees : (q : ℕ) (m m' : Joint) → ((a : ℕ) → a < S.agents → m a ≡ m' a) → S.next q m ≡ S.next q m'
