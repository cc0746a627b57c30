-- `write` writes the text of a block that the check passes.
use Prim.Native.Nat.{ℕ, ◌<◌}
use native.Mathlib.Omega.{arith}
use Rattle.std.proofs.lemmas.Result.{err_from_is_err_and}
use Rattle.block.specs.Layout.{byte_values, byte_at}
use Rattle.block.proofs.Passing.{passing}
use Rattle.writer.proofs.Calls.{another_length, not_passing, text_and_zeros}
use Rattle.writer.proofs.write.Goals as goal

pub returns-then-text-ne-TEXT_BYTES : goal.returns-then-text-ne-TEXT_BYTES
returns-then-text-ne-TEXT_BYTES c = another_length _ (λ e. omega arith)

pub job-length-requires : goal.job-length-requires
job-length-requires c = (passing c.in_ok-check.ensures, omega arith)

pub returns : goal.returns
returns c = let bytes : (p : ℕ) → byte_at c.args.block.now p < byte_values = λ p. omega (arith, c.type_inv.block p) in
    text_and_zeros c.args.text.now c.job-length.new.text (omega arith) bytes c.in_ok-check.ensures (omega arith) c.job-length.ensures.0 c.job-length.ensures.1 c.zeros.ensures

pub returns-in_err-check : goal.returns-in_err-check
returns-in_err-check c = let p = err_from_is_err_and c.from_residual.result c.from_residual.ensures.1 in
    rw (p.1, p.2) (not_passing c.args.text.now (omega arith) c.in_err-check.ensures)
