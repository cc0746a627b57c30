-- `first_paid` looks for a listed move that the place pays.
use mathlib.Core.Bool.{true, false}
use mathlib.Core.List.{List}
use mathlib.Core.Path.{◌≡◌, refl}
use Prim.Native.Nat.{ℕ, ◌≤◌, ◌<◌}
use native.Mathlib.Omega.{arith}
use Rattle.std.proofs.Common.{rules}
use Rattle.std.proofs.lemmas.Iterator.{first_from_Range, serves_from_Range}
use Rattle.std.specs.Option.{is_some}
use Rattle.std.specs.Prelude.{Option, None, Some, MatchOption}
use Rattle.block.specs.Inner.Valid.{Valid}
use Rattle.block.specs.Layout as L
use Rattle.block.specs.Layout.{Block}
use Rattle.ways.specs.Landing.{Remains}
use Rattle.ways.specs.Lines.{count_in, taken_in}
use Rattle.ways.specs.Listing.{Listed}
use Rattle.ways.specs.Packed.{Covers}
use Rattle.ways.specs.Rows.{Playable}
use Rattle.ways.specs.declared.rows.Row.{Row}
use Rattle.ways.proofs.Leading.{paid_at, lands_nowhere}
use Rattle.choice.specs.Choices.{FirstPaid}
use Rattle.choice.proofs.next.first_paid.Goals as goal

-- whether something remains tells whether the place has what is taken
covered : (ways : List ℕ) (x o : ℕ) (r : Option ℕ) → Remains ways x o r → true ≡ is_some r → Covers ways x o
covered ways x o (Some y) remains e = remains.0
covered ways x o None remains e = absurd cc

uncovered : (ways : List ℕ) (x o : ℕ) (r : Option ℕ) → Remains ways x o r → false ≡ is_some r → Covers ways x o → ⊥
uncovered ways x o (Some y) remains e = absurd cc
uncovered ways x o None remains e = remains

module _ (b : Block) (valid : Valid b) (row : Row) (playable : Playable b row) (ways : List ℕ) (listed : Listed b row ways) (s x n : ℕ) (state : s < L.states b) (place : x < row.places)
    (is : n ≡ count_in ways s true) where
  found : (r : Option ℕ)
      → MatchOption r ((k : ℕ) → 0 ≤ k → k < n → Covers ways x (taken_in ways s k) → ⊥)
      (λ i. (0 ≤ i) × (i < n) × Covers ways x (taken_in ways s i) × ((k : ℕ) → 0 ≤ k → k < i → Covers ways x (taken_in ways s k) → ⊥))
      → FirstPaid b row ways s x r
  found None none = λ j below. lands_nowhere b valid row playable ways listed s x j _ state place below refl (none j (omega arith) (omega arith))
  found (Some k) some = (
    omega arith,
    paid_at b valid row playable ways listed s x k _ state place (omega arith) refl some.2,
    λ j less. lands_nowhere b valid row playable ways listed s x j _ state place (omega arith) refl (some.3 j (omega arith) less),
  )

pub find-requires-clause-callable : goal.find-requires-clause-callable
find-requires-clause-callable c = serves_from_Range (λ x q k. search rules) (λ k _ below.
    let small : k < count_in c.args.ways.now c.args.spot.state true = omega (arith, c.count-n.ensures) in
    search rules)

pub returns : goal.returns
returns c = found c.args.block.now c.requires.valid c.args.row c.requires.playable.0 c.args.ways.now c.requires.playable.1 c.args.spot.state c.args.spot.place c.count-n.result
    c.requires.state_bound.0 c.requires.state_bound.1 c.count-n.ensures c.find.result
    (first_from_Range _ _ _ c.find.result (λ k. Covers c.args.ways.now c.args.spot.place (taken_in c.args.ways.now c.args.spot.state k)) (λ k. Covers c.args.ways.now c.args.spot.place (taken_in c.args.ways.now c.args.spot.state k) → ⊥) c.find.ensures.ran
    (λ x q k. search (rules, covered)) (λ x q k. search (rules, uncovered)))
