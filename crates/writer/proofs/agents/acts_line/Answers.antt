-- `acts_line` writes a state, an agent, its count and its costs.
use mathlib.Core.Path.{◌∙◌}
use native.Mathlib.Omega.{arith}
use Rattle.block.specs.Layout as L
use Rattle.block.specs.Layout.{place_of}
use Rattle.block.specs.declared.layout.Place.TheVariants.{Count}
use Rattle.text.specs.Job.{acts_line, index}
use Rattle.writer.proofs.agents.acts_line.Goals as goal

pub number-requires-3 : goal.number-requires-3
number-requires-3 c = omega (arith, c.shared_slice_known-1.given (place_of (Count c.args.s c.args.a)))

pub actions-requires : goal.actions-requires
actions-requires c = record { valid = (c.requires.valid.0, omega (arith, (c.number.ensures.within.1 (omega arith)).0, (c.number-2.ensures.within.1 (omega arith)).0)); s_bound = c.requires.s_bound }

pub returns-clause-past : goal.returns-clause-past
unfolding acts_line index
returns-clause-past c =
    λ f.
    rw c.count.ensures at (
    c.actions.ensures.past (f (L.count c.args.block.now c.args.s c.args.a))
    ∙ c.number-3.ensures.adds _
    ∙ c.number-2.ensures.adds _
    ∙ c.number.ensures.adds _
    ∙ c.word.ensures.adds.0 _)

pub returns-clause-within : goal.returns-clause-within
returns-clause-within c = (omega (arith, (c.number.ensures.within.1 (omega arith)).0, (c.number-2.ensures.within.1 (omega arith)).0), (cc, cc))
