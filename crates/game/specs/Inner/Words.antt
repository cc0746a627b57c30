-- What a row asks with lower rows told by their sets.
use Rattle.std.specs.Prelude.{cond, ℕ, ◌^◌, ◌<◌, eqb}
use Rattle.block.specs.Decide.{Bit}
use Rattle.block.specs.Layout as L
use Rattle.block.specs.Layout.{Block}
use Rattle.game.specs.Play as P
use Rattle.game.specs.Play.{Objective}

-- a word that says of each state whether Q holds there, and has no other bits
abbrev pub Says : Block → ℕ → (ℕ → Type 0) → Type 0
Says b w Q = (w < 2 ^ 32) × ((w < 2 ^ L.states b) × ((s : ℕ) → s < L.states b → (Bit w s → Q s) × (Q s → Bit w s)))

-- what the row asks of a play, with lower rows told by their sets
abbrev pub objective_by : ℕ → ℕ → ℕ → Objective
objective_by k left right = cond (eqb k L.next_kind) (P.next (Bit left)) (cond (eqb k L.always_kind) (P.always (Bit left)) (P.until (Bit left) (Bit right)))
