-- `rank_listed` goes by the goal of the row.
use mathlib.Core.Path.{sym, ◌∙◌, ap}
use Rattle.rankings.specs.Kinds.{kind_of}
use Rattle.solver.proofs.Ranking.{always_ranked}
use Rattle.solver.proofs.rows.rank_listed.Goals as goal

pub returns-in-Always : goal.returns-in-Always
returns-in-Always c = (
  always_ranked c.args.block.now c.args.row.index c.args.row.set c.args.right c.solve.new.ranks (sym c.goal_of.ensures ∙ ap kind_of c.in-Always.is) c.complement.result c.complement-fails.result c.complement.ensures c.complement-fails.ensures c.solve.ensures.0,
  c.solve.ensures.1,
)
