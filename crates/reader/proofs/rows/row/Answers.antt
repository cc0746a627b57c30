-- `row` reads a row: its word, its team and bounds, its operands.
use mathlib.Core.Path.{◌∙◌}
use Prim.Native.Nat.{ℕ}
use Rattle.text.specs.Format.{Format}
use Rattle.text.specs.Job as J
use Rattle.scan.proofs.Reading.{stopped}
use Rattle.reader.proofs.rows.row.Goals as goal

pub returns-in_err-kind-clause-job_value : goal.returns-in_err-kind-clause-job_value
unfolding J.row_line
returns-in_err-kind-clause-job_value c =
    let tail : Format → ℕ → Format = λ f k. J.team_fields c.args.z c.args.i k (J.operand_fields c.args.z c.args.i k f) in
    λ f. c.in_err-kind.ensures.by_index (tail f) ∙ stopped _ _ _ _ c.from_residual.ensures.1

pub returns-in_err-next-clause-job_value : goal.returns-in_err-next-clause-job_value
unfolding J.row_line
returns-in_err-next-clause-job_value c =
    let tail : Format → ℕ → Format = λ f k. J.team_fields c.args.z c.args.i k (J.operand_fields c.args.z c.args.i k f) in
    λ f. c.in_ok-kind.ensures.by_index (tail f)
    ∙ c.in_err-next.ensures.job_value (J.operand_fields c.args.z c.args.i c.in_ok-kind.kind.value f)
    ∙ stopped _ _ _ _ c.from_residual-in_err-next.ensures.1

pub returns-clause-job_value : goal.returns-clause-job_value
unfolding J.row_line
returns-clause-job_value c =
    let tail : Format → ℕ → Format = λ f k. J.team_fields c.args.z c.args.i k (J.operand_fields c.args.z c.args.i k f) in
    λ f. c.in_ok-kind.ensures.by_index (tail f) ∙ c.in_ok-next.ensures.job_value (J.operand_fields c.args.z c.args.i c.in_ok-kind.kind.value f) ∙ c.operands.ensures.job_value f
