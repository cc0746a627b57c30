-- `find` looks for a number along a line.
use mathlib.Core.Bool.{Bool}
use mathlib.Core.List.{List}
use mathlib.Core.Path.{◌≡◌}
use Prim.Native.Nat.{ℕ, ◌≤◌, ◌<◌}
use native.Mathlib.Omega.{arith}
use Rattle.std.proofs.Common.{rules}
use Rattle.std.proofs.lemmas.Iterator.{first_from_Range}
use Rattle.std.specs.Prelude.{Option, None, Some, MatchOption}
use Rattle.ways.specs.Lines.{count_in, number_in, FoundAt}
use Rattle.ways.proofs.lines.find.Goals as goal

found : (l : List ℕ) (s : ℕ) (ours : Bool) (m n : ℕ) (r : Option ℕ) → n ≡ count_in l s ours
    → MatchOption r ((k : ℕ) → 0 ≤ k → k < n → number_in l s ours k ≡ m → ⊥)
    (λ i. (0 ≤ i) × (i < n) × (number_in l s ours i ≡ m) × ((k : ℕ) → 0 ≤ k → k < i → number_in l s ours k ≡ m → ⊥))
    → FoundAt l s ours m r
found l s ours m n None e none = λ j below. none j (omega arith) (omega arith)
found l s ours m n (Some k) e some = (omega arith, some.2, λ j less. some.3 j (omega arith) less)

pub returns : goal.returns
returns c = found c.args.ways.now c.args.s c.args.ours c.args.m c.count-n.result c.find.result c.count-n.ensures
    (first_from_Range _ _ _ c.find.result (λ k. number_in c.args.ways.now c.args.s c.args.ours k ≡ c.args.m) (λ k. number_in c.args.ways.now c.args.s c.args.ours k ≡ c.args.m → ⊥) c.find.ensures.ran
    (λ x q k. search rules) (λ x q k. search rules))
