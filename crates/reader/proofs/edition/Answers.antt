-- `edition` looks for edition 2's first word.
use mathlib.Core.Path.{ap, sym, ◌∙◌}
use Rattle.std.proofs.lemmas.Bool.Decides.{Decides-eqb}
use Rattle.std.proofs.lemmas.Slice.Eq.{starts_is}
use Rattle.text.specs.declared.sizes.Edition.TheVariants.{Second}
use Rattle.text.specs.Job.{job_word}
use Rattle.text.specs.Text.{told_by}
use Rattle.text.proofs.Search.{after_found, after_other}
use Rattle.reader.proofs.edition.Goals as goal

pub returns-then-starts_with : goal.returns-then-starts_with
returns-then-starts_with c =
    let t = c.args.text.now in
    let is = starts_is Decides-eqb t (job_word Second) c.starts_with.result c.starts_with.ensures.value in
    sym (ap told_by (after_found 0 (job_word Second) t _ _ (is.0 c.if-starts_with.true)))

pub returns-else-starts_with : goal.returns-else-starts_with
returns-else-starts_with c =
    let t = c.args.text.now in
    let is = starts_is Decides-eqb t (job_word Second) c.starts_with.result c.starts_with.ensures.value in
    sym (ap told_by (after_other 0 (job_word Second) t _ (λ s. let z = sym c.if-starts_with.false ∙ is.1 s.0 s.1 in cc)))
