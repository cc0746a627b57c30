-- `go_line` writes a state and the next states, in rising joint number.
use mathlib.Core.Path.{refl, ◌∙◌}
use native.Mathlib.Omega.{arith}
use Rattle.text.specs.Job as J
use Rattle.text.proofs.JobLoops.{nexts_loop}
use Rattle.writer.specs.Inner.Writing.{written_sizes}
use Rattle.writer.proofs.Writing.{looped_none, looped_more, looped_all}
use Rattle.writer.proofs.states.go_line.Goals as goal

pub loop-joint-init : goal.loop-joint-init
loop-joint-init c = (omega arith, ((omega arith, (refl, refl)), looped_none))

pub next_field_if-requires : goal.next_field_if-requires
next_field_if-requires c = record { valid = (c.requires.valid.0, omega (arith, (c.number.ensures.within.1 (omega arith)).0)); s_lt_max_states = omega arith }

pub loop-joint-preserved : goal.loop-joint-preserved
loop-joint-preserved c = (omega arith, ((omega arith, (cc, cc)), looped_more (nexts_loop (written_sizes c.args.block.now) c.args.s _) c.loop-joint.invariant.1.1 (omega arith) c.next_field_if.ensures.past))

pub returns-clause-past : goal.returns-clause-past
unfolding J.go_state J.go_word J.index
returns-clause-past c = let nexts = looped_all (nexts_loop (written_sizes c.args.block.now) c.args.s _) c.loop-joint.invariant.1.1 (omega arith) in
    λ f. nexts f ∙ c.number.ensures.adds _ ∙ c.word.ensures.adds.0 _

pub returns-clause-within : goal.returns-clause-within
returns-clause-within c = (omega (arith, (c.number.ensures.within.1 (omega arith)).0), (cc, cc))
