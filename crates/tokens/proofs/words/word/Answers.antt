-- `word` is the spelling k where the word stands.
use mathlib.Core.Path.{sym, ap, ◌∙◌}
use native.Mathlib.Omega.{arith}
use lib.ListN.{drop}
use Rattle.text.specs.Numeral.{found}
use Rattle.block.proofs.Decide as D
use Rattle.text.proofs.Search.{after_found, after_other}
use Rattle.tokens.proofs.WordsAt.{room_for, rest_is}
use Rattle.tokens.proofs.words.word.Goals as goal

pub returns-then-not-stands-clause-result_value : goal.returns-then-not-stands-clause-result_value
returns-then-not-stands-clause-result_value c = sym (after_other c.args.k c.args.word.now (drop c.args.at c.args.text.now) _ (D.falsity c.stands.ensures c.if-not-stands.true))

pub returns-clause-result_value : goal.returns-clause-result_value
returns-clause-result_value c =
    let s = D.truth c.stands.ensures c.if-not-stands.false in
    sym (after_found c.args.k c.args.word.now (drop c.args.at c.args.text.now) s.0 _ s.1 ∙ ap (found c.args.k) (rest_is c.args.word.now c.args.text.now c.args.at s))

pub returns-clause-inside_found : goal.returns-clause-inside_found
returns-clause-inside_found c =
    let s = D.truth c.stands.ensures c.if-not-stands.false in
    let r = room_for c.args.word.now c.args.text.now c.args.at s in
    omega arith
