-- `known` asks once whether any listed move gives something.
use mathlib.Core.Bool.{Bool, true, false}
use mathlib.Core.List.{List}
use mathlib.Core.Path.{refl}
use Prim.Native.Nat.{ℕ}
use Rattle.block.specs.Layout.{Block}
use Rattle.block.proofs.Decide as D
use Rattle.ways.specs.Lines.{count_in, number_in}
use Rattle.ways.specs.Listing.{Listable, LineOf, StateListed}
use Rattle.ways.specs.declared.rows.Row.{Row}
use Rattle.ways.proofs.listing.known.Goals as goal

-- the row with something else known of what its moves give
abbrev with_gives : Row → Bool → Row
with_gives row t = record { index = row.index; places = row.places; into = row.into; set = row.set; gives = t }

-- which does not matter to what is listed
listed_as : (b : Block) (row : Row) (t : Bool) (s : ℕ) (ways : List ℕ) → StateListed b row s ways → StateListed b (with_gives row t) s ways
listed_as b row t s ways one = record { lines = lines; effects = one.effects }
  where
    lines : (ours : Bool) → LineOf (Listable b (with_gives row t) s ours) (number_in ways s ours) (count_in ways s ours)
    lines true = let l = one.lines true in record { each = l.each; only = l.only; rising = l.rising; few = l.few }
    lines false = let l = one.lines false in record { each = l.each; only = l.only; rising = l.rising; few = l.few }

pub returns : goal.returns
returns c = (
  record { inside = c.requires.playable.0.inside; strategic = c.requires.playable.0.strategic; places_are = c.requires.playable.0.places_are },
  record { states = λ s small. listed_as c.args.block.now c.args.row c.any_gives.result s c.args.ways.now (c.requires.playable.1.states s small); told = D.falsity c.any_gives.ensures; packed = c.requires.playable.1.packed; long = c.requires.playable.1.long },
  record { index_same = refl; into_same = refl; set_same = refl },
)
