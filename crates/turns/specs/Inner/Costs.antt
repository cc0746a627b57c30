-- Signed costs as the code has them, against what moves take and give.
use Rattle.std.specs.Prelude.{cond, ◌≡◌, ℕ, suc, ◌*◌, ◌≤◌, eqb, ℤ, pos, negsuc, ◌+ℤ◌}
use Rattle.std.proofs.Math.IntN.{sub_ℕ}
use Rattle.std.specs.Int.Signed.{lt_z}
use Rattle.block.specs.Layout.{Block, sum_kind, max_agents, max_units}
use Rattle.game.specs.Rbatl.{Bound, limit, unlimited}
use Rattle.game.specs.Position.{full, cost, charge}
use Rattle.game.specs.Model.{bounds_of, arena_of}

-- what the signed costs of two agents come to in a resource of kind k: their sum, or the larger
abbrev pub combined_cost : ℕ → ℤ → ℤ → ℤ
combined_cost k x y = cond (eqb k sum_kind) (x +ℤ y) (cond (lt_z x y) y x)

-- the signed cost of a move that takes c and gives g: nothing of an unlimited resource
abbrev pub net : Bound → ℕ → ℕ → ℤ
net (limit n) c g = sub_ℕ c g
net unlimited c g = sub_ℕ 0 0

-- what a signed cost takes, and what it gives
abbrev pub positive : ℤ → ℕ
positive (pos n) = n
positive (negsuc n) = 0

abbrev pub negative : ℤ → ℕ
negative (pos n) = 0
negative (negsuc n) = suc n

-- r is what the move m of row i's coalition costs of resource j in state s, at most so much in either direction
pub record NetOf (b : Block) (i s m j : ℕ) (r : ℤ) : Type 0 where
  pub is : r ≡ net (bounds_of b i j) (cost (arena_of b i) (full (arena_of b i) s) m j) (charge (arena_of b i) (full (arena_of b i) s) m j)
  pub takes_few : positive r ≤ max_agents * max_units
  pub gives_few : negative r ≤ max_agents * max_units
