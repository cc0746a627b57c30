-- `set_effect` stores two fields.
use mathlib.Core.List.{List}
use mathlib.Core.Path.{◌∙◌, ap}
use Prim.Native.Nat.{ℕ, ◌+◌}
use lib.ListN.{set}
use Rattle.ways.specs.Lines.{field_place, gives_at}
use Rattle.ways.proofs.lines.set_effect.Goals as goal

pub returns : goal.returns
returns c = c.set_field-2.ensures ∙ ap (λ (l : List ℕ). set l (field_place c.args.s (gives_at + c.args.k)) c.args.gives) c.set_field.ensures
