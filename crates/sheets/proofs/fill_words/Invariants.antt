-- `fill_words` stores one word after another.
use mathlib.Core.Path.{◌≡◌}
use Prim.Native.Nat.{◌/◌, ◌≤◌}
use lib.ListN.{length}
use Rattle.sheets.specs.Inner.Sheets.{WordsTo}
use Rattle.sheets.proofs.fill_words.Given as goal

abbrev pub invariant-loop-k : goal.invariant-loop-k
invariant-loop-k l = (l.k ≤ length l.list / 3) × WordsTo l.block l.i l.list l.words l.k × (length l.words ≡ length l.initial.words)
