-- `acts` reads the line of an agent: its word and numbers, its count, and the costs.
use mathlib.Core.Path.{◌∙◌}
use Prim.Native.Nat.{ℕ}
use Rattle.block.specs.declared.layout.Place.TheVariants.{Count}
use Rattle.text.specs.Format.{Format, value}
use Rattle.text.specs.Job as J
use Rattle.scan.proofs.Reading.{stopped_with}
use Rattle.reader.proofs.agents.acts.Goals as goal

pub returns-in_err-named-clause-by_index : goal.returns-in_err-named-clause-by_index
unfolding J.acts_line
returns-in_err-named-clause-by_index c =
    let tail : (ℕ → Format) → ℕ → Format = λ f n. J.actions c.args.z c.args.s c.args.a n 0 (f n) in
    let counted : (ℕ → Format) → Format = λ f. value J.count_spelling (Count c.args.s c.args.a) (tail f) in
    λ f. c.in_err-named.ensures.text_value (J.index c.args.s (J.index c.args.a (counted f))) c.args.job.now
    ∙ stopped_with _ _ _ _ c.from_residual.ensures.1

pub returns-in_err-state-clause-by_index : goal.returns-in_err-state-clause-by_index
unfolding J.acts_line
returns-in_err-state-clause-by_index c =
    let tail : (ℕ → Format) → ℕ → Format = λ f n. J.actions c.args.z c.args.s c.args.a n 0 (f n) in
    let counted : (ℕ → Format) → Format = λ f. value J.count_spelling (Count c.args.s c.args.a) (tail f) in
    λ f. c.in_ok-named.ensures.text_value (J.index c.args.s (J.index c.args.a (counted f))) c.args.job.now
    ∙ c.in_err-state.ensures.text_value (J.index c.args.a (counted f)) c.args.job.now
    ∙ stopped_with _ _ _ _ c.from_residual-in_err-state.ensures.1

pub returns-in_err-agent-clause-by_index : goal.returns-in_err-agent-clause-by_index
unfolding J.acts_line
returns-in_err-agent-clause-by_index c =
    let tail : (ℕ → Format) → ℕ → Format = λ f n. J.actions c.args.z c.args.s c.args.a n 0 (f n) in
    let counted : (ℕ → Format) → Format = λ f. value J.count_spelling (Count c.args.s c.args.a) (tail f) in
    λ f. c.in_ok-named.ensures.text_value (J.index c.args.s (J.index c.args.a (counted f))) c.args.job.now
    ∙ c.in_ok-state.ensures.text_value (J.index c.args.a (counted f)) c.args.job.now
    ∙ c.in_err-agent.ensures.text_value (counted f) c.args.job.now
    ∙ stopped_with _ _ _ _ c.from_residual-in_err-agent.ensures.1

pub returns-in_err-count-clause-by_index : goal.returns-in_err-count-clause-by_index
unfolding J.acts_line
returns-in_err-count-clause-by_index c =
    let tail : (ℕ → Format) → ℕ → Format = λ f n. J.actions c.args.z c.args.s c.args.a n 0 (f n) in
    let counted : (ℕ → Format) → Format = λ f. value J.count_spelling (Count c.args.s c.args.a) (tail f) in
    λ f. c.in_ok-named.ensures.text_value (J.index c.args.s (J.index c.args.a (counted f))) c.args.job.now
    ∙ c.in_ok-state.ensures.text_value (J.index c.args.a (counted f)) c.args.job.now
    ∙ c.in_ok-agent.ensures.text_value (counted f) c.args.job.now
    ∙ c.in_err-count.ensures.by_index (tail f)
    ∙ stopped_with _ _ _ _ c.from_residual-in_err-count.ensures.1

pub returns-in_err-next-clause-by_index : goal.returns-in_err-next-clause-by_index
unfolding J.acts_line
returns-in_err-next-clause-by_index c =
    let tail : (ℕ → Format) → ℕ → Format = λ f n. J.actions c.args.z c.args.s c.args.a n 0 (f n) in
    let counted : (ℕ → Format) → Format = λ f. value J.count_spelling (Count c.args.s c.args.a) (tail f) in
    λ f. c.in_ok-named.ensures.text_value (J.index c.args.s (J.index c.args.a (counted f))) c.args.job.now
    ∙ c.in_ok-state.ensures.text_value (J.index c.args.a (counted f)) c.args.job.now
    ∙ c.in_ok-agent.ensures.text_value (counted f) c.args.job.now
    ∙ c.in_ok-count.ensures.by_index (tail f)
    ∙ c.in_err-next.ensures.job_value (f c.in_ok-count.count.value)
    ∙ stopped_with _ _ _ _ c.from_residual-in_err-next.ensures.1

pub returns-clause-by_index : goal.returns-clause-by_index
unfolding J.acts_line
returns-clause-by_index c =
    let tail : (ℕ → Format) → ℕ → Format = λ f n. J.actions c.args.z c.args.s c.args.a n 0 (f n) in
    let counted : (ℕ → Format) → Format = λ f. value J.count_spelling (Count c.args.s c.args.a) (tail f) in
    λ f. c.in_ok-named.ensures.text_value (J.index c.args.s (J.index c.args.a (counted f))) c.args.job.now
    ∙ c.in_ok-state.ensures.text_value (J.index c.args.a (counted f)) c.args.job.now
    ∙ c.in_ok-agent.ensures.text_value (counted f) c.args.job.now
    ∙ c.in_ok-count.ensures.by_index (tail f)
    ∙ c.in_ok-next.ensures.job_value (f c.in_ok-count.count.value)
