-- `fire_box` goes through one line of places after another.
use mathlib.Core.Logic.{◌⊎◌, inl, inr}
use mathlib.Core.Path.{◌≡◌, ◌∙◌, ap}
use Prim.Native.Nat.{ℕ, ◌+◌, ◌*◌, ◌≤◌}
use native.Mathlib.Nat.{mul-le-mul, suc-mul}
use native.Mathlib.Omega.{arith}
use Rattle.game.proofs.Numbers.Decide.{eq?}
use Rattle.stages.proofs.Evolving.{lent_still}
use Rattle.stages.proofs.Carrying.{Carried, carried_none, carried_both}
use Rattle.stages.proofs.fire.fire_box.Goals as goal
use Rattle.stages.proofs.fire.fire_box.Invariants.{Before}
use Rattle.stages.proofs.fire.fire_box.Lts as lts
use Rattle.stages.proofs.fire.fire_box.Reads as reads
use Rattle.stages.proofs.fire.fire_box.Tie as tie

abbrev At-In-loop-a : Type 0
At-In-loop-a = lts.In-loop tie.the-claims reads.Pre reads.Post goal.the-invariant-loop-a goal.the-decreases-loop-a tie.handed_clauses

pub overflow_add-end : goal.overflow_add-end
overflow_add-end c = omega (arith, c.requires.last_lt_max_stocks.0)

pub loop-a-init : goal.loop-a-init
loop-a-init c = carried_none c.args.block.now c.args.fire.row c.args.ways.now c.args.board.now c.args.fire.most c.args.fire.safe c.args.fire.stage c.args.fire.state c.args.fire.index c.args.fire.place c.args.ranks.now c.args.flags.now (λ z _ (i, h, e, (from, below), _). omega arith)

-- a line ends before the places do
line_ends : (c : At-In-loop-a) → c.loop-a.a * c.args.spans.width + c.args.spans.width ≤ 256
line_ends c =
    let lines : c.loop-a.a + 1 ≤ 16 = omega (arith, c.requires.last_lt_max_stocks.0, c.loop-a-test.true) in
    let whole : (c.loop-a.a + 1) * c.args.spans.width ≤ 16 * 16 = mul-le-mul lines c.requires.last_lt_max_stocks.2 in
    omega (arith, suc-mul c.loop-a.a c.args.spans.width)

pub overflow_mul-span : goal.overflow_mul-span
overflow_mul-span c = omega (arith, line_ends c.before)

pub overflow_add-span : goal.overflow_add-span
overflow_add-span c = omega (arith, line_ends c.before, c.requires.last_lt_max_stocks.3)

pub overflow_mul-span-in-loop-a : goal.overflow_mul-span-in-loop-a
overflow_mul-span-in-loop-a c = omega (arith, line_ends c.before)

pub overflow_add-span-in-loop-a : goal.overflow_add-span-in-loop-a
overflow_add-span-in-loop-a c = omega (arith, line_ends c.before, c.requires.last_lt_max_stocks.1)

pub fire_span-requires : goal.fire_span-requires
fire_span-requires c = record { valid = c.requires.valid; lent = lent_still c.args.block.now c.args.fire.row c.args.ways.now c.args.board.now c.args.fire.most c.args.fire.safe c.args.fire.stage c.requires.lent.small c.loop-a.invariant.evolved c.requires.lent; state_bound = c.requires.state_bound; last_bound = omega (arith, line_ends c.before.before.before, c.requires.last_lt_max_stocks.1) }

pub overflow_step-a : goal.overflow_step-a
overflow_step-a c = omega (arith, c.loop-a-test.true)

pub loop-a-smaller : goal.loop-a-smaller
loop-a-smaller c = omega (arith, c.loop-a-test.true)

-- a place of the lines before the next is one of those before this, or one of this
split : (from first last width a z : ℕ) → (box : Before from first last width (a + 1) z) → Dec (box.0 ≡ a) → Before from first last width a z ⊎ ((a * width + first ≤ z) × (z ≤ a * width + last))
split from first last width a z (i, h, e, (begun, below), (low, high)) (yes here) = let at : z ≡ a * width + h = e ∙ ap (λ (j : ℕ). j * width + h) here in inr (omega arith, omega arith)
split from first last width a z (i, h, e, (begun, below), span) (no other) = inl (i, h, e, (begun, omega arith), span)

pub loop-a-preserved : goal.loop-a-preserved
loop-a-preserved c = let here : Carried c.args.block.now c.args.fire.row c.args.ways.now c.args.board.now c.args.fire.most c.args.fire.safe c.args.fire.stage c.args.fire.state c.args.fire.index c.args.fire.place (λ z. (c.loop-a.a * c.args.spans.width + c.args.spans.high.first ≤ z) × (z ≤ c.loop-a.a * c.args.spans.width + c.args.spans.high.last)) c.loop-a.ranks c.loop-a.flags _ _ =
    record { evolved = c.fire_span.ensures.0; past = λ z place (from, to_last) to. c.fire_span.ensures.1 z from to_last place to } in
    carried_both c.args.block.now c.args.fire.row c.args.ways.now c.args.board.now c.args.fire.most c.args.fire.safe c.args.fire.stage c.args.fire.state c.args.fire.index c.args.fire.place c.requires.valid.1.playable c.requires.lent.small c.requires.state_bound.0 c.requires.state_bound.3
    (λ z _ box. split c.args.spans.low.first c.args.spans.high.first c.args.spans.high.last c.args.spans.width c.loop-a.a z box (eq? box.0 c.loop-a.a)) c.loop-a.invariant here

pub shape_of-ranks : goal.shape_of-ranks
shape_of-ranks c = c.loop-a.invariant.evolved.ranks_long

pub shape_of-flags : goal.shape_of-flags
shape_of-flags c = c.loop-a.invariant.evolved.flags_long

pub returns : goal.returns
returns c = (c.loop-a.invariant.evolved, λ x (i, h, e, (from, to_last), span) place to. c.loop-a.invariant.past x place (i, h, e, (from, omega (arith, c.loop-a-test.false)), span) to)
