-- `header_line` writes the five sizes and the kinds.
use mathlib.Core.List.{List}
use mathlib.Core.Path.{◌∙◌}
use Prim.Native.Nat.{ℕ}
use Rattle.block.specs.Layout as L
use Rattle.block.specs.Layout.{Block}
use Rattle.text.specs.declared.sizes.Edition.TheVariants.{Second}
use Rattle.text.specs.declared.sizes.Sizes.{Sizes}
use Rattle.text.specs.Format.{Format, write}
use Rattle.text.specs.Job.{header_line, size, resource_fields, no_kinds}
use Rattle.writer.proofs.job.header_line.Goals as goal

-- what follows the line, by the kinds
abbrev sized : (Sizes → Format) → Block → List ℕ → Format
sized f b kinds = f (record { edition = Second; agents = L.agents b; resources = L.resources b; states = L.states b; propositions = L.propositions b; rows = L.rows b; kinds = kinds })

pub rows-requires : goal.rows-requires
rows-requires c = c.requires.0.sized.bytes

pub returns-clause-past : goal.returns-clause-past
unfolding header_line size
returns-clause-past c =
    λ f.
    c.resource_fields.ensures.past (sized f c.args.block.now)
    ∙ rw (c.agents.ensures, c.resources.ensures, c.states.ensures, c.propositions.ensures, c.rows.ensures) at (
    c.number-5.ensures.adds (write (resource_fields Second (L.resources c.args.block.now) 0 no_kinds (sized f c.args.block.now)) c.args.block.now)
    ∙ c.number-4.ensures.adds _
    ∙ c.number-3.ensures.adds _
    ∙ c.number-2.ensures.adds _
    ∙ c.number.ensures.adds _
    ∙ c.word.ensures.adds.0 _)
