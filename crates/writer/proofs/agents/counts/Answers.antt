-- `counts` gathers the counts, agent by agent.
use mathlib.Core.Path.{◌≡◌, refl, ap, ◌∙◌}
use native.Mathlib.Numerals.{add-one}
use native.Mathlib.Omega.{arith}
use Rattle.text.specs.Inner.Fields.{counts_to}
use Rattle.writer.proofs.agents.counts.Goals as goal

pub agents-agents-requires : goal.agents-agents-requires
agents-agents-requires c = omega arith

pub loop-a-init : goal.loop-a-init
loop-a-init c = (omega arith, refl)

pub count-requires : goal.count-requires
count-requires c = omega arith

pub offset_bounds-counts-a : goal.offset_bounds-counts-a
offset_bounds-counts-a c = omega arith

pub bounds-counts-a : goal.bounds-counts-a
bounds-counts-a c = omega arith

pub overflow_step-a : goal.overflow_step-a
overflow_step-a c = omega arith

pub loop-a-smaller : goal.loop-a-smaller
loop-a-smaller c = omega arith

pub loop-a-preserved : goal.loop-a-preserved
loop-a-preserved c = (omega arith, rw (add-one, c.count.ensures, c.loop-a.invariant.1) refl)

pub returns : goal.returns
returns c = let all : c.loop-a.a ≡ c.agents-agents.result = omega arith in
    c.loop-a.invariant.1 ∙ ap (counts_to c.args.block.now c.args.s) (all ∙ c.agents-agents.ensures)
