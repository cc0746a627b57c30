-- `cost_in_use` tells whether a cost is that of an action, agent and resource that exist.
use native.Mathlib.Omega.{arith}
use Rattle.block.proofs.Decide as D
use Rattle.unused.proofs.cost_in_use.Goals.{then-agent_in_use, else-agent_in_use}
use Rattle.unused.proofs.cost_in_use.Goals as goal

pub returns-then-k-count : goal.returns-then-k-count
returns-then-k-count c =
    elim c.if-agent_in_use.branch [
      | then-agent_in_use w ↦ let u = D.truth c.agent_in_use.ensures w.if-agent_in_use.true in
          let few = D.truth (D.less c.args.k w.count.result) (cc) in
          D.same (D.less c.args.j c.resources.result) (λ h. (u.0, u.1, omega (arith, few), omega arith)) (λ x. omega arith)
      | else-agent_in_use w ↦ absurd cc
    ]

pub returns-else-k-count : goal.returns-else-k-count
returns-else-k-count c = D.no c.if-k-count.false
    (λ x.
    elim c.if-agent_in_use.branch [
      | then-agent_in_use w ↦ D.falsity (D.less c.args.k w.count.result) (cc) (omega arith)
      | else-agent_in_use w ↦ D.falsity c.agent_in_use.ensures w.if-agent_in_use.false (x.0, x.1)
    ])
