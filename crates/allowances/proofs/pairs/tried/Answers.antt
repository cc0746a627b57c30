-- `tried` looks whether the resource is there and limited.
use native.Mathlib.Omega.{arith}
use Rattle.allowances.proofs.Pairing.{spans_absent, spans_unlimited, spans_limited}
use Rattle.allowances.proofs.pairs.tried.Goals as goal

pub returns-then-resources-j : goal.returns-then-resources-j
returns-then-resources-j c = spans_absent (omega (arith, c.if-resources-j.true))

pub returns-then-bound-eq-UNLIMITED : goal.returns-then-bound-eq-UNLIMITED
returns-then-bound-eq-UNLIMITED c = spans_unlimited (omega arith) (omega arith)

pub returns : goal.returns
returns c = spans_limited (omega arith) (λ un. omega arith)
