-- `taken` is what a cost above nothing takes.
use mathlib.Core.Path.{◌∙◌, ap}
use Rattle.turns.specs.Inner.Costs as C
use Rattle.turns.proofs.Costs.{net_held, net_takes}
use Rattle.turns.proofs.positions.taken.Goals as goal

pub returns : goal.returns
returns c = c.positive.ensures
    ∙ ap C.positive (net_held c.net.ensures)
    ∙ net_takes c.args.block.now c.args.i c.args.s c.args.m c.args.j c.net.result c.net.ensures
