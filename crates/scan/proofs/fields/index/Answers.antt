-- `index` goes past a known number: the number that stands there is that one, or another, or none.
use mathlib.Core.List.{[], ◌∷◌, ◌++◌}
use mathlib.Core.Path.{◌≡◌, sym, ◌∙◌}
use lib.Dec.{lit<}
use lib.ListN.{drop}
use Rattle.std.specs.Prelude.{Err}
use Rattle.std.proofs.lemmas.Result.{err_from_is_err_and}
use Rattle.text.specs.Numeral.{comma, decimal}
use Rattle.text.proofs.Search.{search_inv, search_none}
use Rattle.text.proofs.Decimals.{only_one}
use Rattle.scan.proofs.Reading.{index_next, index_not}
use borrow.Author.Rules.{rules}
use Rattle.scan.proofs.fields.index.Goals as goal

pub returns-in_err-found-clause-text_value : goal.returns-in_err-found-clause-text_value
returns-in_err-found-clause-text_value c =
    let t = drop c.args.at c.args.text.now in
    let none = rw c.in_err-found.was at c.ok_or.ensures.ok_part in
    let there = rw none at c.number.ensures.text_value in
    let told : Err c.in_err-found.field-0.0 ≡ Err c.bad_form.result = sym c.in_err-found.was ∙ (rw none at c.ok_or.ensures.value) in
    let stop : c.in_err-found.field-0.0 ≡ c.bad_form.result = cc in
    let gives = err_from_is_err_and c.from_residual.result c.from_residual.ensures.1 in
    rw (gives.1, gives.2, stop, c.bad_form.ensures) (λ f b. index_not c.args.n t f b (search_none (λ n. decimal n ++ comma ∷ []) t 256 there c.args.n (search rules)))

pub returns-then-found-n-clause-text_value : goal.returns-then-found-n-clause-text_value
returns-then-found-n-clause-text_value c =
    let t = drop c.args.at c.args.text.now in
    let some = rw c.in_ok-found.was at c.ok_or.ensures.ok_part in
    let is = search_inv (λ n. decimal n ++ comma ∷ []) t 256 _ _ (rw some at c.number.ensures.text_value) in
    rw c.bad_form-then-found-n.ensures (λ f b. index_not c.args.n t f b (λ s. c.if-found-n.true (only_one comma (lit< tt) _ c.args.n is.0 (search rules) t (_, is.1) s)))

pub returns-clause-text_value : goal.returns-clause-text_value
returns-clause-text_value c =
    let t = drop c.args.at c.args.text.now in
    let some = rw c.in_ok-found.was at c.ok_or.ensures.ok_part in
    let is = search_inv (λ n. decimal n ++ comma ∷ []) t 256 _ _ (rw some at c.number.ensures.text_value) in
    λ f b. index_next c.args.n t f b _ (rw (← c.if-found-n.false) is.1)
