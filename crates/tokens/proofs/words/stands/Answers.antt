-- `stands` tells whether a word stands at a place.
use mathlib.Core.Bool.{Bool, true, false}
use mathlib.Core.Path.{◌≡◌, refl}
use lib.Dec.{eqb}
use lib.ListN.{drop}
use Rattle.std.specs.List.{starts_with}
use Rattle.std.proofs.lemmas.Bool.Decides.{Decides-eqb}
use Rattle.std.proofs.lemmas.List.{take_rest}
use Rattle.std.proofs.lemmas.Slice.Eq.{starts_is}
use Rattle.block.specs.Inner.Tests.{Decides, holds, fails}
use Rattle.tokens.proofs.words.stands.Goals as goal

decided : {P : Type 0} (t : Bool) → (t ≡ true → P) × (P → t ≡ true) → Decides P t
decided true e = holds (e.0 refl)
decided false e = fails (λ p. let z : false ≡ true = e.1 p in cc)

pub returns : goal.returns
returns c =
    let s = drop c.args.at c.args.text.now in
    let same : c.starts_with.result ≡ starts_with eqb s c.args.word.now = rw take_rest at c.starts_with.ensures.value in
    let is = starts_is Decides-eqb s c.args.word.now c.starts_with.result same in
    decided _ ((λ e. (_, is.0 e)), (λ w. is.1 w.0 w.1))
