-- `list_row` lists one state after another, behind the packed stocks.
use mathlib.Core.Path.{◌≡◌}
use Prim.Native.Nat.{ℕ, ◌-◌, ◌≤◌, ◌<◌}
use lib.ListN.{length}
use Rattle.game.specs.Model.{arena_of}
use Rattle.ways.specs.Lines.{ways_bytes}
use Rattle.ways.specs.Listing.{StateListed}
use Rattle.ways.specs.Packed.{Packs}
use Rattle.ways.proofs.listing.list_row.Given as goal

abbrev pub invariant-loop-s : goal.invariant-loop-s
invariant-loop-s l = (l.s ≤ l.n) × ((t : ℕ) → t < l.s → StateListed l.block l.row t l.ways) × Packs (arena_of l.block l.row.index) l.ways × (length l.ways ≡ ways_bytes)

abbrev pub decreases-loop-s : goal.decreases-loop-s
decreases-loop-s l = l.n - l.s
