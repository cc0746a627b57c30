-- `acts` tells whether an agent has an action.
use mathlib.Core.Logic.{inl, inr, ⊎_elim}
use native.Mathlib.Omega.{arith}
use Rattle.block.proofs.Decide as D
use Rattle.block.proofs.joint.acts.Goals as goal

pub returns-then-a-agents : goal.returns-then-a-agents
returns-then-a-agents c = rw (← c.digit-k.ensures.0) (D.same (D.less _ _)
    (λ k. inl (omega arith, rw (← c.count.ensures) k))
    (λ x. ⊎_elim (λ h. rw c.count.ensures h.1) (λ h. absurd (omega arith)) x))

pub returns-else-a-agents : goal.returns-else-a-agents
returns-else-a-agents c = rw (← c.digit-k.ensures.0) (D.same (D.equal _ _)
    (λ k. inr (omega arith, k))
    (λ x. ⊎_elim (λ h. absurd (omega arith)) (λ h. h.1) x))
