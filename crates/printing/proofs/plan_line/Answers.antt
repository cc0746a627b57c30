-- `plan_line` stores its word and four numbers.
use mathlib.Core.List.{◌++◌, append_assoc}
use mathlib.Core.Path.{◌∙◌}
use Rattle.text.specs.Numeral.{comma, line_end, field}
use Rattle.printing.proofs.plan_line.Goals as goal

pub returns-clause-adds : goal.returns-clause-adds
returns-clause-adds c =
    let i = field c.args.i comma in
    let s = field c.args.s comma in
    let rank = field c.args.rank comma in
    let move = field c.args.m line_end in
    λ rest.
    rw (append_assoc i (s ++ (rank ++ move)) rest, append_assoc s (rank ++ move) rest, append_assoc rank move rest, ← c.from.ensures)
    (c.number-4.ensures.adds rest ∙ c.number-3.ensures.adds _ ∙ c.number-2.ensures.adds _ ∙ c.number.ensures.adds _ ∙ c.word.ensures.adds.0 _)
