-- `job` writes the header, the states and the rows.
use mathlib.Core.List.{append-nil}
use mathlib.Core.Path.{◌≡◌, sym, ◌∙◌}
use native.Mathlib.Omega.{arith}
use Rattle.std.proofs.lemmas.Grind.{common_steps}
use Rattle.block.specs.Layout as L
use Rattle.text.specs.Format.{end}
use Rattle.text.specs.Inner.Adding.{front}
use Rattle.text.specs.Job.{job, states, row_lines}
use Rattle.text.specs.Text.{text_of}
use Rattle.writer.specs.Inner.Writing.{written_sizes}
use Rattle.writer.proofs.job.job.Goals as goal

pub returns : goal.returns
unfolding job
returns c =
    let z = written_sizes c.args.block.now in
    let whole : front c.row_lines.new.out ≡ text_of c.args.block.now =
    sym (append-nil _)
    ∙ c.row_lines.ensures.past end
    ∙ c.states.ensures.past (row_lines z (L.rows c.args.block.now) 0 end)
    ∙ rw c.new-out.ensures.empty.1 at (c.header_line.ensures.past (λ z. states z z.states 0 (row_lines z z.rows 0 end))) in
    (grind (arith, common_steps), omega arith)
