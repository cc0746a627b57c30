-- `list_line` tries every number.
use Prim.Native.Nat.{ℕ, ◌+◌, ◌-◌, ◌≤◌, ◌<◌}
use Rattle.ways.specs.Lines.{field_place, line_at, number_in}
use Rattle.ways.specs.Listing.{Ends, Listable, SameOutside}
use Rattle.ways.proofs.Filling.{LineBelow}
use Rattle.ways.proofs.listing.list_line.Given as goal

abbrev pub invariant-loop-m : goal.invariant-loop-m
invariant-loop-m l =
    (l.m ≤ l.limit) × LineBelow (Listable l.block l.row l.s l.ours) l.m (number_in l.ways l.s l.ours) l.n × SameOutside (field_place l.s (line_at l.ours)) (field_place l.s (line_at l.ours) + 64) l.initial.ways l.ways
    × ((k : ℕ) → k < l.m → Ends l.block l.row l.s l.ours k → ⊥)

abbrev pub decreases-loop-m : goal.decreases-loop-m
decreases-loop-m l = l.limit - l.m
