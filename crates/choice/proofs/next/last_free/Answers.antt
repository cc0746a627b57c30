-- `last_free` looks at the last listed move, if there is one.
use mathlib.Core.Path.{sym, ◌∙◌, ap}
use Prim.Native.Nat.{ℕ, ◌-◌}
use native.Mathlib.Omega.{arith}
use Rattle.block.proofs.Decide as D
use Rattle.ways.specs.Lines.{taken_in}
use Rattle.choice.proofs.next.last_free.Goals as goal

pub returns-then-n-gt0 : goal.returns-then-n-gt0
returns-then-n-gt0 c = let is = c.taken.ensures.0 ∙ ap (λ (n : ℕ). taken_in c.args.ways.now c.args.s (n - 1)) c.count-n.ensures in
    D.same (D.equal c.taken.result 0) (λ e. (omega (arith, c.count-n.ensures, c.if-n-gt0.true), sym is ∙ e)) (λ h. is ∙ h.1)

pub returns-else-n-gt0 : goal.returns-else-n-gt0
returns-else-n-gt0 c = D.same (D.less 0 c.count-n.result) (λ some. absurd (omega (arith, c.if-n-gt0.false))) (λ h. omega (arith, h.0, c.count-n.ensures))
