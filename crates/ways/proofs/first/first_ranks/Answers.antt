-- `first_ranks` stores the ranks of one state after another, and zeros behind them.
use mathlib.Core.Path.{◌≡◌, refl, sym, ◌∙◌, ap, subst}
use Prim.Native.Nat.{ℕ, ◌+◌, ◌*◌, ◌≤◌}
use native.Mathlib.Nat.{mul-le-mul, mul-le-mul_right}
use native.Mathlib.Omega.{arith}
use Rattle.block.specs.Layout as L
use Rattle.game.specs.Position.{positions}
use Rattle.game.specs.Model.{arena_of}
use Rattle.game.proofs.Blocks.Passing.{states_times}
use Rattle.ways.proofs.Leading.{few}
use Rattle.ways.proofs.Starting.{FirstTo, state_first, past_first}
use Rattle.ways.proofs.first.first_ranks.Goals as goal
use Rattle.ways.proofs.first.first_ranks.Lts as lts
use Rattle.ways.proofs.first.first_ranks.Reads as reads
use Rattle.ways.proofs.first.first_ranks.Tie as tie

abbrev At-After-states-n : Type 0
At-After-states-n = lts.After-states tie.the-claims reads.Pre reads.Post goal.the-invariant-loop-s goal.the-decreases-loop-s tie.handed_clauses

abbrev At-In-loop-s : Type 0
At-In-loop-s = lts.In-loop tie.the-claims reads.Pre reads.Post goal.the-invariant-loop-s goal.the-decreases-loop-s tie.handed_clauses

pub states-n-requires : goal.states-n-requires
states-n-requires c = c.requires.valid.sized.bytes

pub loop-s-init : goal.loop-s-init
loop-s-init c = (omega arith, refl, λ k small. absurd (omega arith))

-- all positions are within the buffer
module _ (c : At-After-states-n) where
  all : c.states-n.result * c.args.row.places ≤ 6144
  all =
      let most : c.states-n.result ≤ 24 = omega (arith, c.states-n.ensures, c.requires.valid.sized.states_fit) in
      let whole : c.states-n.result * c.args.row.places ≤ 24 * 256 = mul-le-mul most (few c.args.block.now c.requires.valid c.args.row c.requires.playable.0) in
      omega (arith, whole)

-- and so are those of the next state
module _ (c : At-In-loop-s) where
  next : (c.loop-s.s + 1) * c.args.row.places ≤ c.states-n.result * c.args.row.places
  next = let less : c.loop-s.s + 1 ≤ c.states-n.result = omega (arith, c.loop-s-test.true) in mul-le-mul_right c.args.row.places less

  here : c.loop-s.s * c.args.row.places ≤ (c.loop-s.s + 1) * c.args.row.places
  here = let less : c.loop-s.s ≤ c.loop-s.s + 1 = omega arith in mul-le-mul_right c.args.row.places less

pub overflow_mul-s : goal.overflow_mul-s
overflow_mul-s c = record { fits = omega (arith, here c.before.before, next c.before.before, all c.before.before.before.before) }

pub overflow_add-s : goal.overflow_add-s
overflow_add-s c = record { fits = omega (arith, c.loop-s-test.true, c.states-n.ensures, c.requires.valid.sized.states_fit) }

pub overflow_mul-s-in-loop-s : goal.overflow_mul-s-in-loop-s
overflow_mul-s-in-loop-s c = record { fits = omega (arith, next c.before.before, all c.before.before.before.before) }

pub first_rank-requires : goal.first_rank-requires
first_rank-requires c = (omega (arith, c.loop-s-test.true, c.states-n.ensures, c.requires.valid.sized.states_fit), c.requires.other_lt_rank_end)

pub store_ranks-requires : goal.store_ranks-requires
store_ranks-requires c = (here c.before.before.before, omega (arith, next c.before.before.before, all c.before.before.before.before.before, c.loop-s.invariant.1, c.requires.playable.1), c.first_rank.ensures.1)

pub overflow_step-s : goal.overflow_step-s
overflow_step-s c = omega (arith, c.loop-s-test.true)

pub loop-s-smaller : goal.loop-s-smaller
loop-s-smaller c = omega (arith, c.loop-s-test.true)

pub loop-s-preserved : goal.loop-s-preserved
loop-s-preserved c = (omega (arith, c.loop-s-test.true), c.store_ranks.ensures.long ∙ c.loop-s.invariant.1, state_first c.args.other c.args.goal c.args.row.places (c.states-n.result * c.args.row.places) c.loop-s.s c.first_rank.result (next c.before.before.before.before.before.before) c.first_rank.ensures.0 c.store_ranks.ensures c.loop-s.invariant.2)

pub overflow_mul-n : goal.overflow_mul-n
overflow_mul-n c = record { fits = omega (arith, all c.before.before.before.before) }

pub store_ranks-requires-2 : goal.store_ranks-requires-2
store_ranks-requires-2 c = (all c.before.before.before.before, omega (arith, c.loop-s.invariant.1, c.requires.playable.1), omega arith)

pub shape_of-ranks : goal.shape_of-ranks
shape_of-ranks c = c.store_ranks-2.ensures.long ∙ c.loop-s.invariant.1

pub returns : goal.returns
returns c = let last : c.loop-s.s ≡ c.states-n.result = omega (arith, c.loop-s.invariant.0, c.loop-s-test.false) in
    let are : c.states-n.result * c.args.row.places ≡ positions (arena_of c.args.block.now c.args.row.index) =
    ap (λ (n : ℕ). n * c.args.row.places) c.states-n.ensures ∙ ap (λ (n : ℕ). L.states c.args.block.now * n) c.requires.playable.0.places_are ∙ sym (states_times c.args.block.now c.requires.valid c.args.row.index (L.resources c.args.block.now)) in
    let full = subst (λ (s : ℕ). FirstTo c.args.other c.args.goal c.args.row.places (c.states-n.result * c.args.row.places) (s * c.args.row.places) c.loop-s.ranks) last c.loop-s.invariant.2 in
    let ranks = past_first c.args.other c.args.goal c.args.row.places (c.states-n.result * c.args.row.places) 6144 c.store_ranks-2.ensures full in
    record { by_index = subst (λ (n : ℕ). FirstTo c.args.other c.args.goal c.args.row.places n 6144 c.store_ranks-2.new.ranks) are ranks; ranks_len_unchanged = c.store_ranks-2.ensures.long ∙ c.loop-s.invariant.1 }
