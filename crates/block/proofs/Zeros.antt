-- A buffer that is zeros from its front. Assumes nothing.
use mathlib.Core.List.{List, ◌++◌}
use mathlib.Core.Path.{◌≡◌, ap, ◌∙◌}
use Prim.Native.Nat.{ℕ, ◌-◌}
use native.Mathlib.Omega.{arith}
use lib.ListN.{length, take, replicate}

pub cleared : (t : List ℕ) {u : List ℕ} → u ≡ take 0 t ++ replicate (length t - 0) 0 → u ≡ replicate (length t) 0
cleared t e = let all : length t - 0 ≡ length t = omega arith in e ∙ ap (λ (n : ℕ). replicate n 0) all
