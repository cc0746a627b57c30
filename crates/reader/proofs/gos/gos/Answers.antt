-- `gos` reads the next states of the joint actions that can be done.
use mathlib.Core.Bool.{Bool, true, false, cond}
use mathlib.Core.List.{List}
use mathlib.Core.Path.{◌≡◌, sym, ap, ◌∙◌}
use Prim.Native.Nat.{ℕ}
use native.Mathlib.Omega.{arith}
use Rattle.block.specs.Layout.{Block}
use Rattle.text.specs.Format.{Format, read}
use Rattle.text.specs.Job as J
use Rattle.text.proofs.JobLoops.{nexts_loop}
use Rattle.scan.proofs.Reading.{stopped}
use Rattle.reader.proofs.Progress.{reached_more, reached_stop, reached_all}
use Rattle.reader.proofs.gos.gos.Goals as goal
use Rattle.reader.proofs.gos.gos.Goals.{then-possible+in_ok-next-2, else-possible}

-- the field of a joint action is read where the joint action can be done, and else what follows it
picked : {t : Bool} (field f : Format) (b : Block) (text : List ℕ) → t ≡ true → read (cond t field f) b text ≡ read field b text
picked field f b text e = ap (λ (t : Bool). read (cond t field f) b text) e

passed : {t : Bool} (field f : Format) (b : Block) (text : List ℕ) → t ≡ false → read (cond t field f) b text ≡ read f b text
passed field f b text e = ap (λ (t : Bool). read (cond t field f) b text) e

pub returns-in_err-next-2-clause-job_value : goal.returns-in_err-next-2-clause-job_value
returns-in_err-next-2-clause-job_value c =
    let can = sym c.possible.ensures ∙ c.if-possible.true in
    λ f. c.in_ok-next.ensures.b_value (J.next_fields c.args.z c.args.s c.args.counts 64 0 f) c.args.job.now
    ∙ reached_stop (nexts_loop _ _ _) c.loop-joint.invariant.3 c.loop-joint-test.true (λ g. picked _ _ _ _ can ∙ c.in_err-next-2.ensures.job_value g) f
    ∙ stopped _ _ _ _ c.from_residual-in_err-next-2.ensures.1

pub loop-joint-preserved : goal.loop-joint-preserved
loop-joint-preserved c = elim c.if-possible.branch [
  | then-possible+in_ok-next-2 w ↦
      let can = sym c.possible.ensures ∙ w.if-possible.true in
      rw (w.next-is, w.job-is) (
        w.in_ok-next-2.ensures.inside_2,
        w.next_field.auto.job ∙ c.loop-joint.invariant.1,
        omega arith,
        reached_more (nexts_loop _ _ _) c.loop-joint.invariant.3 c.loop-joint-test.true (λ f. picked _ _ _ _ can ∙ w.in_ok-next-2.ensures.job_value f),
      )
  | else-possible w ↦
      let cannot = sym c.possible.ensures ∙ w.if-possible.false in
      rw (w.next-is, w.job-is) (
        c.loop-joint.invariant.0,
        c.loop-joint.invariant.1,
        omega arith,
        reached_more (nexts_loop _ _ _) c.loop-joint.invariant.3 c.loop-joint-test.true (λ f. passed _ _ _ _ cannot),
      )
]

pub returns-clause-job_value : goal.returns-clause-job_value
returns-clause-job_value c =
    λ f. c.in_ok-next.ensures.b_value (J.next_fields c.args.z c.args.s c.args.counts 64 0 f) c.args.job.now
    ∙ reached_all (nexts_loop _ _ _) c.loop-joint.invariant.3 c.loop-joint-test.false f
