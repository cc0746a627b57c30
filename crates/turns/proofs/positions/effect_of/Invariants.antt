-- `effect_of` goes over the resources as `number_up_to` does, with what the move takes of each and what it gives.
use mathlib.Core.Path.{◌≡◌}
use Prim.Native.Nat.{ℕ, ◌+◌, ◌*◌, ◌-◌, ◌≤◌}
use Rattle.block.specs.Layout.{Block}
use Rattle.game.specs.Position as P
use Rattle.game.specs.Inner.Stocks as S
use Rattle.game.specs.Position.{Position, number_up_to}
use Rattle.game.specs.Model.{arena_of}
use Rattle.turns.proofs.positions.effect_of.Given as goal

-- what the move takes of each stock, and what it gives
abbrev pub taken_by : Block → ℕ → ℕ → ℕ → Position
taken_by b i s m = S.takes (arena_of b i) (P.full (arena_of b i) s) m

abbrev pub given_by : Block → ℕ → ℕ → ℕ → Position
given_by b i s m = S.gives (arena_of b i) (P.full (arena_of b i) s) m

-- at most 45 of each of two resources, so that the numbers stay small
abbrev pub few : ℕ → ℕ
few j = 45 * j + 675 * (j - 1)

abbrev pub invariant-loop-j : goal.invariant-loop-j
invariant-loop-j l =
    (l.j ≤ l.n) × (l.takes ≡ number_up_to (arena_of l.block l.i) l.j (taken_by l.block l.i l.s l.m)) × (l.gives ≡ number_up_to (arena_of l.block l.i) l.j (given_by l.block l.i l.s l.m)) × (l.takes ≤ few l.j) × (l.gives ≤ few l.j)
