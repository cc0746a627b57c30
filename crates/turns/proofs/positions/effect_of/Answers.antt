-- `effect_of` goes over the resources as `number_up_to` does, with what the move takes of each and what it gives.
use mathlib.Core.Path.{◌≡◌, refl, ◌∙◌, ap}
use Prim.Native.Nat.{ℕ, ◌+◌, ◌*◌, ◌-◌, ◌≤◌, ◌<◌, min}
use native.Mathlib.Nat.{mul-le-mul_left}
use native.Mathlib.Omega.{arith}
use mir.Syntax.{w32}
use mir.Val.{to_z, of_z}
use Rattle.block.specs.Layout as L
use Rattle.block.specs.Layout.{Block}
use Rattle.game.specs.Position.{number_up_to}
use Rattle.game.specs.Model.{bounds_of, arena_of}
use Rattle.game.proofs.Local.Same.{places_positive}
use Rattle.game.proofs.Blocks.Passing.{few_places}
use Rattle.turns.specs.Inner.Costs as C
use Rattle.turns.proofs.Numbering.{number_next}
use Rattle.turns.proofs.Costs.{net_held, net_takes, net_gives}
use Rattle.turns.proofs.positions.effect_of.Goals as goal
use Rattle.turns.proofs.positions.effect_of.Invariants.{taken_by, given_by, few}
use Rattle.turns.proofs.positions.effect_of.Lts as lts
use Rattle.turns.proofs.positions.effect_of.Reads as reads
use Rattle.turns.proofs.positions.effect_of.Tie as tie

abbrev At-After-net-cost : Type 0
At-After-net-cost = lts.After-net tie.the-claims reads.Pre reads.Post goal.the-invariant-loop-j goal.the-decreases-loop-j tie.handed_clauses

abbrev At-After-places-c : Type 0
At-After-places-c = lts.After-places tie.the-claims reads.Pre reads.Post goal.the-invariant-loop-j goal.the-decreases-loop-j tie.handed_clauses

abbrev At-After-min : Type 0
At-After-min = lts.After-min tie.the-claims reads.Pre reads.Post goal.the-invariant-loop-j goal.the-decreases-loop-j tie.handed_clauses

abbrev At-In-loop-j : Type 0
At-In-loop-j = lts.In-loop tie.the-claims reads.Pre reads.Post goal.the-invariant-loop-j goal.the-decreases-loop-j tie.handed_clauses

pub resources-n-requires : goal.resources-n-requires
resources-n-requires c = c.requires.valid.sized.bytes

pub loop-j-init : goal.loop-j-init
loop-j-init c = (omega arith, refl, refl, omega arith, omega arith)

resource_at : (c : At-In-loop-j) → (c.loop-j.j < L.resources c.args.block.now) × (c.loop-j.j < 2)
resource_at c = (omega (arith, c.resources-n.ensures, c.loop-j-test.true), omega (arith, c.resources-n.ensures, c.loop-j-test.true, c.requires.valid.sized.resources_fit))

pub places-c-requires : goal.places-c-requires
places-c-requires c = record { valid = c.requires.valid; i_bound = (c.requires.i_bound.0, (resource_at c.before).0, c.requires.i_bound.1) }

pub net-cost-requires : goal.net-cost-requires
net-cost-requires c = record { valid = c.requires.valid; i_bound = (c.requires.i_bound.0, c.requires.i_bound.2, (resource_at c.before.before).0); move_of = c.requires.move_of }

-- a number that stays small with a resource more
module _ (c : At-After-places-c) where
  some_places : (0 < c.places-c.result) × (c.places-c.result ≤ 16)
  some_places = (
    omega (arith, c.places-c.ensures, places_positive (bounds_of c.args.block.now c.args.i c.loop-j.j)),
    omega (arith, c.places-c.ensures, few_places c.args.block.now c.requires.valid c.args.i (c.requires.valid.row_fits c.args.i c.requires.i_bound.0) c.requires.i_bound.1 c.loop-j.j (resource_at c.before).0),
  )

  product_small : (x : ℕ) → x * c.places-c.result ≤ x * 16
  product_small x = mul-le-mul_left x some_places.1

pub overflow_mul-takes : goal.overflow_mul-takes
overflow_mul-takes c = omega (arith, product_small c.before.before c.loop-j.takes, c.loop-j.invariant.3, (resource_at c.before.before.before).1)

-- what was found of the cost
module _ (c : At-After-net-cost) where
  positive_is : (r : ℕ) → r ≡ C.positive (to_z w32 (of_z w32 c.net-cost.result)) → (r ≡ (taken_by c.args.block.now c.args.i c.args.s c.args.m).stock c.loop-j.j) × (r ≤ 45)
  positive_is r is =
      let plain = is ∙ ap C.positive (net_held c.net-cost.ensures) in
      (plain ∙ net_takes c.args.block.now c.args.i c.args.s c.args.m c.loop-j.j c.net-cost.result c.net-cost.ensures, omega (arith, plain, c.net-cost.ensures.takes_few))

  negative_is : (r : ℕ) → r ≡ C.negative (to_z w32 (of_z w32 c.net-cost.result)) → (r ≤ 45) × ((v : ℕ) → v ≡ min (c.places-c.result - 1) r → (v ≡ (given_by c.args.block.now c.args.i c.args.s c.args.m).stock c.loop-j.j) × (v ≤ 45))
  negative_is r is =
      let plain : r ≡ C.negative c.net-cost.result = is ∙ ap C.negative (net_held c.net-cost.ensures) in
      let small : r ≤ 45 = omega (arith, plain, c.net-cost.ensures.gives_few) in (
        small,
        λ v e. (
          e ∙ ap (min (c.places-c.result - 1)) plain ∙ net_gives c.args.block.now c.args.i c.args.s c.args.m c.loop-j.j c.net-cost.result c.net-cost.ensures c.places-c.result c.places-c.ensures,
          omega arith,
        ),
      )

pub overflow_add-takes : goal.overflow_add-takes
overflow_add-takes c = omega (arith, product_small c.before.before.before c.loop-j.takes, c.loop-j.invariant.3, (resource_at c.before.before.before.before).1, positive_is c.before.before c.positive.result c.positive.ensures)

pub overflow_mul-gives : goal.overflow_mul-gives
overflow_mul-gives c = omega (arith, product_small c.before.before.before c.loop-j.gives, c.loop-j.invariant.4, (resource_at c.before.before.before.before).1)

pub overflow_sub-c : goal.overflow_sub-c
overflow_sub-c c = omega (arith, some_places c.before.before.before)

pub negative-requires : goal.negative-requires
negative-requires c = omega (arith, ap C.negative (net_held c.net-cost.ensures), c.net-cost.ensures.gives_few)

-- what one turn comes to
module _ (c : At-After-min) where
  takes_here : (c.positive.result ≡ (taken_by c.args.block.now c.args.i c.args.s c.args.m).stock c.loop-j.j) × (c.positive.result ≤ 45)
  takes_here = positive_is c.before.before.before c.positive.result c.positive.ensures

  gives_here : (c.min.result ≡ (given_by c.args.block.now c.args.i c.args.s c.args.m).stock c.loop-j.j) × (c.min.result ≤ 45)
  gives_here = (negative_is c.before.before.before c.negative.result c.negative.ensures).1 c.min.result c.min.ensures

  sum_small : (x v : ℕ) → x ≤ few c.loop-j.j → v ≤ 45 → (x * c.places-c.result + v ≤ few (c.loop-j.j + 1)) × (few (c.loop-j.j + 1) ≤ 765)
  sum_small x v so_far small = let less = product_small c.before.before.before.before x in let one = (resource_at c.before.before.before.before.before).1 in (omega arith, omega arith)

pub overflow_add-gives : goal.overflow_add-gives
overflow_add-gives c = omega (arith, sum_small c.before c.loop-j.gives c.min.result c.loop-j.invariant.4 (gives_here c.before).1)

pub overflow_step-j : goal.overflow_step-j
overflow_step-j c = omega arith

pub loop-j-smaller : goal.loop-j-smaller
loop-j-smaller c = omega arith

pub loop-j-preserved : goal.loop-j-preserved
loop-j-preserved c = (
  omega arith,
  number_next c.args.block.now c.args.i c.loop-j.j c.loop-j.takes c.places-c.result c.positive.result (taken_by c.args.block.now c.args.i c.args.s c.args.m) c.loop-j.invariant.1 c.places-c.ensures (takes_here c.before).0,
  number_next c.args.block.now c.args.i c.loop-j.j c.loop-j.gives c.places-c.result c.min.result (given_by c.args.block.now c.args.i c.args.s c.args.m) c.loop-j.invariant.2 c.places-c.ensures (gives_here c.before).0,
  (sum_small c.before c.loop-j.takes c.positive.result c.loop-j.invariant.3 (takes_here c.before).1).0,
  (sum_small c.before c.loop-j.gives c.min.result c.loop-j.invariant.4 (gives_here c.before).1).0,
)

pub returns : goal.returns
returns c = let all : c.loop-j.j ≡ L.resources c.args.block.now = omega (arith, c.resources-n.ensures) in (
  c.loop-j.invariant.1 ∙ ap (λ (n : ℕ). number_up_to (arena_of c.args.block.now c.args.i) n (taken_by c.args.block.now c.args.i c.args.s c.args.m)) all,
  c.loop-j.invariant.2 ∙ ap (λ (n : ℕ). number_up_to (arena_of c.args.block.now c.args.i) n (given_by c.args.block.now c.args.i c.args.s c.args.m)) all,
)
