-- `refused_line` stores the line, and zeros after it.
use mathlib.Core.Path.{◌≡◌, ap, ◌∙◌}
use native.Mathlib.Omega.{arith}
use lib.ListN.{length}
use Rattle.block.specs.Refusal.{number_of}
use Rattle.text.specs.Inner.Adding.{front}
use Rattle.text.proofs.Adding.{added_front}
use Rattle.report.specs.Call.{refused_bytes}
use Rattle.printing.specs.Lines.{refused_line}
use Rattle.report.proofs.Printing.{filled}
use Rattle.report.proofs.refused_line.Goals as goal

pub returns : goal.returns
returns c =
    let written : front c.refused_line.new.out ≡ refused_line c.number.result = rw c.new-out.ensures.empty.1 at (added_front (refused_line c.number.result) c.new-out.result c.refused_line.new.out c.refused_line.ensures.adds) in
    filled (refused_line (number_of c.args.r)) c.refused_line.new.out.text.now c.zeros.new.buffer refused_bytes c.len-n.result (rw c.len-n.ensures (written ∙ ap refused_line c.number.ensures)) (omega arith) (omega (arith, ap length c.new-out.ensures.empty.0)) c.zeros.ensures
