-- `pack_at` takes one stock after another from the place, the last one first.
use Rattle.ways.proofs.Packing.{PackingTo}
use Rattle.ways.proofs.packs.pack_at.Given as goal

abbrev pub invariant-loop-j : goal.invariant-loop-j
invariant-loop-j l = PackingTo l.block l.i l.x l.j l.rest l.packed
