-- `list_effects` finds what one listed move after another takes and gives.
use mathlib.Core.Bool.{true}
use mathlib.Core.List.{List}
use mathlib.Core.Logic.{inl}
use mathlib.Core.Path.{◌≡◌, sym, ◌∙◌, ap, subst}
use Prim.Native.Nat.{ℕ, ◌+◌, ◌<◌}
use native.Mathlib.Omega.{arith}
use Rattle.game.specs.Position.{Position, MoveOf, full}
use Rattle.game.specs.Inner.Stocks.{offset, refill, gives}
use Rattle.game.specs.Model.{structure_of, coalition_of, arena_of}
use Rattle.game.proofs.Bridge.Truth.{full_fits}
use Rattle.ways.specs.Lines.{field_place, takes_at, count_in, number_in, taken_in, given_in}
use Rattle.ways.specs.Listing.{SameOutside}
use Rattle.ways.proofs.Filling.{outside_none, outside_both, effects_more, effect_outside}
use Rattle.ways.proofs.Leading.{few}
use Rattle.ways.proofs.Offsets.{gives_fit, spent_number}
use Rattle.ways.proofs.Placing.{stocks_below}
use Rattle.ways.proofs.listing.list_effects.Goals as goal
use Rattle.ways.proofs.listing.list_effects.Lts as lts
use Rattle.ways.proofs.listing.list_effects.Reads as reads
use Rattle.ways.proofs.listing.list_effects.Tie as tie

abbrev At-After-effect_of-e : Type 0
At-After-effect_of-e = lts.After-effect_of tie.the-claims reads.Pre reads.Post goal.the-invariant-loop-k goal.the-decreases-loop-k tie.handed_clauses

abbrev At-After-number-m : Type 0
At-After-number-m = lts.After-number tie.the-claims reads.Pre reads.Post goal.the-invariant-loop-k goal.the-decreases-loop-k tie.handed_clauses

abbrev At-In-loop-k : Type 0
At-In-loop-k = lts.In-loop tie.the-claims reads.Pre reads.Post goal.the-invariant-loop-k goal.the-decreases-loop-k tie.handed_clauses

abbrev At-Start : Type 0
At-Start = lts.Start tie.the-claims reads.Pre reads.Post goal.the-invariant-loop-k goal.the-decreases-loop-k tie.handed_clauses

-- the counts and the numbers stay
module _ (s : ℕ) (l l' : List ℕ) (same : SameOutside (field_place s takes_at) (field_place (s + 1) 0) l l') where
  count_kept : count_in l' s true ≡ count_in l s true
  count_kept = same.same (field_place s 0) (inl (omega arith))

  number_kept : (k : ℕ) → k < 64 → number_in l' s true k ≡ number_in l s true k
  number_kept k small = same.same (field_place s (2 + k)) (inl (omega arith))

state_small : (start : At-Start) → start.args.s < 24
state_small start = omega (arith, start.requires.playable.1, start.requires.valid.sized.states_fit)

pub count-n-requires : goal.count-n-requires
count-n-requires c = (c.requires.playable.2, state_small c.before.before.before)

pub loop-k-init : goal.loop-k-init
loop-k-init c = (omega arith, (λ j small. absurd (omega arith)), outside_none (field_place c.args.s takes_at) (field_place (c.args.s + 1) 0) c.args.ways.now)

within : (c : At-In-loop-k) → (c.loop-k.k < count_in c.args.ways.now c.args.s true) × (c.loop-k.k < 64)
within c = (omega (arith, c.loop-k-test.true, c.count-n.ensures), omega (arith, c.loop-k-test.true, c.count-n.ensures, c.requires.line_of.few))

pub number-m-requires : goal.number-m-requires
number-m-requires c = (c.loop-k.invariant.2.long ∙ c.requires.playable.2, state_small c.before.before.before.before.before.before, (within c.before).1)

-- the number that was read is the move's
module _ (c : At-After-number-m) where
  number_is : c.number-m.result ≡ number_in c.args.ways.now c.args.s true c.loop-k.k
  number_is = c.number-m.ensures ∙ number_kept c.args.s c.args.ways.now c.loop-k.ways c.loop-k.invariant.2 c.loop-k.k (within c.before).1

  way : MoveOf (structure_of c.args.block.now) (coalition_of c.args.block.now c.args.row.index) c.args.s c.number-m.result
  way = subst (MoveOf (structure_of c.args.block.now) (coalition_of c.args.block.now c.args.row.index) c.args.s) (sym number_is) (c.requires.line_of.only c.loop-k.k (within c.before).0).0.0

  -- what it takes and gives are stock places
  small : (offset (arena_of c.args.block.now c.args.row.index) (full (arena_of c.args.block.now c.args.row.index) c.args.s) (number_in c.args.ways.now c.args.s true c.loop-k.k) < 256)
      × (refill (arena_of c.args.block.now c.args.row.index) (full (arena_of c.args.block.now c.args.row.index) c.args.s) (number_in c.args.ways.now c.args.s true c.loop-k.k) < 256)
  small =
      let G = arena_of c.args.block.now c.args.row.index in
      let q = full G c.args.s in
      let fits = full_fits G c.args.s c.requires.playable.1 in
      let m = number_in c.args.ways.now c.args.s true c.loop-k.k in
      let gifts : Position = record { state = c.args.s; stock = (gives G q m).stock } in
      let some = few c.args.block.now c.requires.valid c.args.row c.requires.playable.0 in (
        omega (arith, spent_number G q m fits (c.requires.line_of.only c.loop-k.k (within c.before).0).0.1, stocks_below G q fits),
        omega (arith, stocks_below G gifts (c.requires.playable.1, gives_fit G q m)),
      )

pub effect_of-e-requires : goal.effect_of-e-requires
effect_of-e-requires c = record { valid = c.requires.valid; i_bound = (c.requires.playable.0.inside, c.requires.playable.0.strategic, c.requires.playable.1); move_of = way c.before }

-- what is stored
module _ (c : At-After-effect_of-e) where
  takes_is : c.effect_of-e.result.takes ≡ offset (arena_of c.args.block.now c.args.row.index) (full (arena_of c.args.block.now c.args.row.index) c.args.s) (number_in c.args.ways.now c.args.s true c.loop-k.k)
  takes_is = c.effect_of-e.ensures.0 ∙ ap (offset (arena_of c.args.block.now c.args.row.index) (full (arena_of c.args.block.now c.args.row.index) c.args.s)) (number_is c.before)

  gives_is : c.effect_of-e.result.gives ≡ refill (arena_of c.args.block.now c.args.row.index) (full (arena_of c.args.block.now c.args.row.index) c.args.s) (number_in c.args.ways.now c.args.s true c.loop-k.k)
  gives_is = c.effect_of-e.ensures.1 ∙ ap (refill (arena_of c.args.block.now c.args.row.index) (full (arena_of c.args.block.now c.args.row.index) c.args.s)) (number_is c.before)

pub set_effect-requires : goal.set_effect-requires
set_effect-requires c = (
  c.loop-k.invariant.2.long ∙ c.requires.playable.2,
  state_small c.before.before.before.before.before.before.before.before.before,
  (within c.before.before.before.before).1,
  omega (arith, takes_is c.before.before, (small c.before.before.before).0),
  omega (arith, gives_is c.before.before, (small c.before.before.before).1),
)

pub overflow_step-k : goal.overflow_step-k
overflow_step-k c = omega (arith, c.loop-k-test.true)

pub loop-k-smaller : goal.loop-k-smaller
loop-k-smaller c = omega (arith, c.loop-k-test.true)

pub loop-k-preserved : goal.loop-k-preserved
loop-k-preserved c = let G = arena_of c.args.block.now c.args.row.index in
    let takes : ℕ → ℕ = λ j. offset G (full G c.args.s) (number_in c.args.ways.now c.args.s true j) in
    let gives : ℕ → ℕ = λ j. refill G (full G c.args.s) (number_in c.args.ways.now c.args.s true j) in
    let state = state_small c.before.before.before.before.before.before.before.before.before.before.before.before in
    let long = c.loop-k.invariant.2.long ∙ c.requires.playable.2 in
    let k-small = (within c.before.before.before.before.before.before.before).1 in (
      omega (arith, c.loop-k-test.true),
      subst (λ (l : List ℕ). (j : ℕ) → j < c.loop-k.k + 1 → (taken_in l c.args.s j ≡ takes j) × (given_in l c.args.s j ≡ gives j)) (sym c.set_effect.ensures)
          (effects_more c.args.s c.loop-k.k c.effect_of-e.result.takes c.effect_of-e.result.gives c.loop-k.ways state k-small long takes gives c.loop-k.invariant.1 (takes_is c.before.before.before.before.before) (gives_is c.before.before.before.before.before)),
      outside_both c.loop-k.invariant.2 (subst (SameOutside (field_place c.args.s takes_at) (field_place (c.args.s + 1) 0) c.loop-k.ways) (sym c.set_effect.ensures) (effect_outside c.args.s c.loop-k.k c.effect_of-e.result.takes c.effect_of-e.result.gives c.loop-k.ways state k-small long)),
    )

pub shape_of-ways : goal.shape_of-ways
shape_of-ways c = c.loop-k.invariant.2.long

pub returns : goal.returns
returns c = let G = arena_of c.args.block.now c.args.row.index in record {
  effects_of = λ k small.
      let below : k < count_in c.args.ways.now c.args.s true = omega (arith, count_kept c.args.s c.args.ways.now c.loop-k.ways c.loop-k.invariant.2) in
      let (takes, gives) = c.loop-k.invariant.1 k (omega (arith, c.count-n.ensures, c.loop-k-test.false)) in
      let number = sym (number_kept c.args.s c.args.ways.now c.loop-k.ways c.loop-k.invariant.2 k (omega (arith, c.requires.line_of.few))) in
      (takes ∙ ap (offset G (full G c.args.s)) number, gives ∙ ap (refill G (full G c.args.s)) number);
  same_outside = c.loop-k.invariant.2;
}
