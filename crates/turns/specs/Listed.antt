-- The states of a set, listed.
use Rattle.std.specs.Prelude.{List, ◌≡◌, ℕ, ◌≤◌, ◌<◌, get_or, length}
use Rattle.block.specs.Decide.{Some}
use Rattle.block.specs.Layout as L

-- the list has a byte for each state that a job can have
abbrev pub states_bytes : ℕ
states_bytes = L.max_states

-- the first n entries are the numbers of which Q holds, rising; zeros stand after them
pub record Lists (Q : ℕ → Type 0) (list : List ℕ) (n : ℕ) : Type 0 where
  pub each : (k : ℕ) → k < n → Q (get_or list k 0)
  pub rising : (j k : ℕ) → j < k → k < n → get_or list j 0 < get_or list k 0
  pub all : (s : ℕ) → Q s → Some n (λ k. get_or list k 0 ≡ s)
  pub past : (k : ℕ) → n ≤ k → get_or list k 0 ≡ 0
  pub fits : n ≤ states_bytes
  pub long : length list ≡ states_bytes
