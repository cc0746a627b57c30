-- `read_into` reads a text into a block and sees that nothing follows.
use mathlib.Core.Path.{sym, ap, ◌∙◌}
use lib.Seq.{drop-cons}
use Rattle.block.specs.declared.refusal.Refusal.TheVariants.{Form}
use Rattle.text.specs.Format.{refused, end, read}
use Rattle.reader.proofs.read_into.Goals as goal

pub returns-then-at-text-clause-text_value : goal.returns-then-at-text-clause-text_value
returns-then-at-text-clause-text_value c =
    let more = drop-cons c.args.text.now c.in_ok-at.at 0 c.if-at-text.true in
    c.in_ok-at.ensures.text_value ∙ ap (read end c.lines.new.job) more ∙ ap (refused Form) (sym more)
