-- `state_line` writes a state and its mask.
use mathlib.Core.Path.{◌∙◌}
use native.Mathlib.Omega.{arith}
use Rattle.block.specs.Layout.{place_of}
use Rattle.block.specs.declared.layout.Place.TheVariants.{Mask}
use Rattle.text.specs.Format.{write}
use Rattle.text.specs.Job.{state_line, index}
use Rattle.writer.proofs.states.state_line.Goals as goal

pub number-requires-2 : goal.number-requires-2
number-requires-2 c = omega (arith, c.shared_slice_known-1.given (place_of (Mask c.args.s)), (c.number.ensures.within.1 (omega arith)).0)

pub returns-clause-past : goal.returns-clause-past
unfolding state_line index
returns-clause-past c = λ f. rw c.mask.ensures at (c.number-2.ensures.adds (write f c.args.block.now) ∙ c.number.ensures.adds _ ∙ c.word.ensures.adds.0 _)

pub returns-clause-within : goal.returns-clause-within
returns-clause-within c = (omega (arith, (c.number.ensures.within.1 (omega arith)).0), (cc, cc))
