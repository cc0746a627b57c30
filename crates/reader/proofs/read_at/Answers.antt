-- `read_at` reads as `read` does, and tells where that ended.
use mathlib.Core.Path.{refl}
use native.Mathlib.Omega.{arith}
use Rattle.block.proofs.Refusals.{past, answered}
use Rattle.text.specs.Text.{blank}
use Rattle.reader.proofs.read_at.Goals as goal

pub returns-in-Ok : goal.returns-in-Ok
unfolding blank
returns-in-Ok c = past (λ long. omega (arith, long, c.if-text-gt-TEXT_BYTES.false)) (answered (rw c.in-Ok.ensures.text_value refl))

pub returns-in-Err : goal.returns-in-Err
unfolding blank
returns-in-Err c = past (λ long. omega (arith, long, c.if-text-gt-TEXT_BYTES.false)) (answered (rw c.in-Err.ensures.text_value (c.in-Err.ensures.inside, refl)))
