-- `ends_line` asks whether the move takes nothing, in a line of moves into the set.
use mathlib.Core.Bool.{true}
use mathlib.Core.Path.{◌≡◌, sym, ◌∙◌}
use Rattle.block.specs.Inner.Tests.{fails}
use Rattle.block.proofs.Decide as D
use Rattle.ways.proofs.Filling.{apart}
use Rattle.ways.proofs.listing.ends_line.Goals as goal
use Rattle.ways.proofs.listing.ends_line.Goals.{then-ours, else-ours}

pub returns-then-row : goal.returns-then-row
returns-then-row c =
    let into : (c.args.ours ≡ true) × (c.args.row.into ≡ true) = elim c.if-ours.branch [
      | then-ours w ↦ (w.if-ours.true, sym w.value-is ∙ c.if-row.true)
      | else-ours w ↦ absurd (apart c.if-ours.value c.if-row.true (w.value-is ∙ w.if-ours.false))
    ] in
    D.same (D.equal c.effect_of.result.takes 0) (λ e. (into.0, into.1, sym c.effect_of.ensures.0 ∙ e)) (λ h. c.effect_of.ensures.0 ∙ h.2)

pub returns-else-row : goal.returns-else-row
returns-else-row c = rw c.if-row.false (fails (λ h. elim c.if-ours.branch [
  | then-ours w ↦ apart c.args.row.into h.1 (sym w.value-is ∙ c.if-row.false)
  | else-ours w ↦ apart c.args.ours h.0 w.if-ours.false
]))
