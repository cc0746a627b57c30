-- `fire_box` goes through one line of places after another.
use mathlib.Core.Path.{◌≡◌}
use Prim.Native.Nat.{ℕ, ◌+◌, ◌*◌, ◌-◌, ◌≤◌, ◌<◌}
use Rattle.stages.proofs.Carrying.{Carried}
use Rattle.stages.proofs.fire.fire_box.Given as goal

-- the places of the lines before a
abbrev pub Before : ℕ → ℕ → ℕ → ℕ → ℕ → ℕ → Type 0
Before from first last width a z = (i : ℕ) × (h : ℕ) × (z ≡ i * width + h) × ((from ≤ i) × (i < a)) × ((first ≤ h) × (h ≤ last))

abbrev pub invariant-loop-a : goal.invariant-loop-a
invariant-loop-a l =
    Carried l.block l.fire.row l.ways l.board l.fire.most l.fire.safe l.fire.stage l.fire.state l.fire.index l.fire.place (Before l.initial.a l.first l.last l.width l.a) l.initial.ranks l.initial.flags l.ranks l.flags

abbrev pub decreases-loop-a : goal.decreases-loop-a
decreases-loop-a l = l.end - l.a
