-- `mark_box` flags one line of places after another.
use mathlib.Core.Path.{◌≡◌}
use Prim.Native.Nat.{ℕ, ◌+◌, ◌*◌, ◌-◌, ◌≤◌, ◌<◌}
use Rattle.ways.specs.Back.{InSpan, Marked}
use Rattle.ways.specs.declared.back.Span.{Span}
use Rattle.ways.proofs.back.mark_box.Given as goal

-- the places of the lines before a
abbrev pub Before : ℕ → Span → ℕ → ℕ → ℕ → Type 0
Before first high width a z = (x : ℕ) × (h : ℕ) × (z ≡ x * width + h) × ((first ≤ x) × (x < a)) × InSpan high h

abbrev pub invariant-loop-a : goal.invariant-loop-a
invariant-loop-a l = Marked (Before l.initial.a l.high l.width l.a) l.initial.flags l.flags

abbrev pub decreases-loop-a : goal.decreases-loop-a
decreases-loop-a l = l.end - l.a
