-- `fill_packs` packs the stocks of one place after another.
use mathlib.Core.Path.{◌≡◌}
use Prim.Native.Nat.{ℕ, ◌-◌, ◌≤◌, ◌<◌}
use lib.ListN.{length}
use Rattle.game.specs.Model.{arena_of}
use Rattle.ways.specs.Lines.{packed_in}
use Rattle.ways.specs.Packed.{PackedAt}
use Rattle.ways.proofs.packs.fill_packs.Given as goal

abbrev pub invariant-loop-x : goal.invariant-loop-x
invariant-loop-x l = (l.x ≤ l.c) × ((y : ℕ) → y < l.x → PackedAt (arena_of l.block l.i) y (packed_in l.ways y)) × (length l.ways ≡ length l.initial.ways)

abbrev pub decreases-loop-x : goal.decreases-loop-x
decreases-loop-x l = l.c - l.x
