-- `field` reads a number and stores it where its value is right.
use mathlib.Core.List.{[], ◌∷◌, ◌++◌}
use Rattle.text.specs.Numeral.{decimal}
use Rattle.text.proofs.Search.{search_inv}
use borrow.Author.Rules.{rules}
use Rattle.scan.proofs.fields.field.Goals as goal

pub put-requires-clause-in_layout : goal.put-requires-clause-in_layout
put-requires-clause-in_layout c =
    let there = rw c.in_ok-found.was at c.ok_or.ensures.ok_part in
    (search rules, (search_inv (λ n. decimal n ++ c.args.range.sep ∷ []) _ 256 _ _ (rw there at c.number.ensures.text_value)).0)

pub returns-clause-inside_with : goal.returns-clause-inside_with
returns-clause-inside_with c =
    let there = rw c.in_ok-found.was at c.ok_or.ensures.ok_part in
    ((search_inv (λ n. decimal n ++ c.args.range.sep ∷ []) _ 256 _ _ (rw there at c.number.ensures.text_value)).0, rw there at c.number.ensures.inside_found)
