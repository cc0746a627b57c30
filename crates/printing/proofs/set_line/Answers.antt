-- `set_line` stores its word and three numbers.
use mathlib.Core.List.{◌++◌, append_assoc}
use mathlib.Core.Path.{◌∙◌}
use native.Mathlib.Omega.{arith}
use lib.Count.{ones, ones-le}
use Rattle.text.specs.Numeral.{comma, line_end, field}
use Rattle.printing.proofs.set_line.Goals as goal

pub number-requires-2 : goal.number-requires-2
number-requires-2 c = (omega arith, omega (arith, c.count-states.ensures, ones-le 24 c.args.set c.requires.1.1))

pub returns-clause-adds : goal.returns-clause-adds
returns-clause-adds c =
    let i = field c.args.i comma in
    let count = field (ones c.args.set) comma in
    let set = field c.args.set line_end in
    λ rest.
    rw (append_assoc i (count ++ set) rest, append_assoc count set rest, ← c.count-states.ensures)
    (c.number-3.ensures.adds rest ∙ c.number-2.ensures.adds _ ∙ c.number.ensures.adds _ ∙ c.word.ensures.adds.0 _)
