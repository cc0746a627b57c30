-- `cost` adds up what the team's agents take and give; `rest` and `k` hold what is left of the team and of the move.
use mathlib.Core.Path.{◌≡◌, refl, sym, ◌∙◌, ap, subst}
use Prim.Native.Nat.{ℕ, ◌+◌, ◌/◌, ◌%◌, ◌^◌, ◌≤◌, ◌<◌}
use native.Mathlib.Nat.{div-one}
use native.Mathlib.Omega.{arith}
use lib.IntN.{ℤ, ◌+ℤ◌}
use mir.Syntax.{w32}
use mir.Val.{SFits, to_z, of_z}
use mir.ValLaws.{to_z-of_z}
use Rattle.block.specs.Layout as L
use Rattle.game.proofs.Blocks.Reading.{shift}
use Rattle.turns.specs.Inner.Costs.{combined_cost}
use Rattle.turns.proofs.Totals.{TotalTo, total_none, total_fits, total_other, total_member, cost_held, sum_fits}
use Rattle.turns.proofs.moves.cost.Goals as goal
use Rattle.turns.proofs.moves.cost.Goals.{then-rest-eq1, else-rest-eq1}
use Rattle.turns.proofs.moves.cost.Lts as lts
use Rattle.turns.proofs.moves.cost.Reads as reads
use Rattle.turns.proofs.moves.cost.Tie as tie

abbrev At-After-cost : Type 0
At-After-cost = lts.After-cost tie.the-claims reads.Pre reads.Post goal.the-invariant-loop-a goal.the-decreases-loop-a tie.handed_clauses

abbrev At-In-loop-a : Type 0
At-In-loop-a = lts.In-loop tie.the-claims reads.Pre reads.Post goal.the-invariant-loop-a goal.the-decreases-loop-a tie.handed_clauses

pub resource_kind-kind-requires : goal.resource_kind-kind-requires
resource_kind-kind-requires c = record { block_len = c.requires.valid.sized.bytes; j_lt_max_resources = omega (arith, c.requires.s_bound.1, c.requires.valid.sized.resources_fit) }

pub agents-n-requires : goal.agents-n-requires
agents-n-requires c = c.requires.valid.sized.bytes

pub loop-a-init : goal.loop-a-init
loop-a-init c = (omega arith, total_none _ _ _ _ _ _ refl, sym (div-one _), sym (div-one _))

pub cost-requires : goal.cost-requires
cost-requires c = record { block_len = c.requires.valid.sized.bytes; s_lt_max_states = (omega (arith, c.requires.s_bound.0, c.requires.valid.sized.states_fit), omega (arith, c.agents-n.ensures, c.requires.valid.sized.agents_fit), omega arith, omega (arith, c.requires.s_bound.1, c.requires.valid.sized.resources_fit)) }

-- a turn of the loop, at an agent of the team
turn_agent : (c : At-In-loop-a) → c.loop-a.a < L.agents c.args.block.now
turn_agent c = omega (arith, c.agents-n.ensures, c.loop-a-test.true)

module _ (c : At-After-cost) where
  member : c.args.team / 2 ^ c.loop-a.a % 2 ≡ 1
  member = omega (arith, c.if-rest-eq1.true, c.loop-a.invariant.2)

  is_cost : c.cost.result ≡ L.signed (L.cost c.args.block.now c.args.s c.loop-a.a (c.args.m / 4 ^ c.loop-a.a % 4) c.args.j)
  is_cost = c.cost.ensures ∙ ap (λ (x : ℕ). L.signed (L.cost c.args.block.now c.args.s c.loop-a.a (x % 4) c.args.j)) c.loop-a.invariant.3

  held : to_z w32 (of_z w32 c.cost.result) ≡ c.cost.result
  held =
      cost_held c.args.block.now c.requires.valid c.args.team c.args.m c.args.s c.args.j c.loop-a.a c.requires.s_bound.0 c.requires.s_bound.1 (turn_agent c.before.before) c.requires.move_of
      (to_z w32 c.loop-a.total-bits) c.loop-a.invariant.1 member c.cost.result is_cost

  fits : SFits w32 ((to_z w32 c.loop-a.total-bits) +ℤ c.cost.result)
  fits =
      sum_fits c.args.block.now c.requires.valid c.args.team c.args.m c.args.s c.args.j c.loop-a.a c.requires.s_bound.0 c.requires.s_bound.1 (turn_agent c.before.before) c.requires.move_of
      (to_z w32 c.loop-a.total-bits) c.loop-a.invariant.1 member c.cost.result is_cost

  joined : (z : ℤ) → z ≡ combined_cost c.resource_kind-kind.result (to_z w32 c.loop-a.total-bits) (to_z w32 (of_z w32 c.cost.result)) → TotalTo c.args.block.now c.args.team c.args.m c.args.s c.args.j (c.loop-a.a + 1) z
  joined z is =
      subst (TotalTo c.args.block.now c.args.team c.args.m c.args.s c.args.j (c.loop-a.a + 1)) (sym (is ∙ ap (combined_cost c.resource_kind-kind.result (to_z w32 c.loop-a.total-bits)) held))
      (total_member c.args.block.now c.requires.valid c.args.team c.args.m c.args.s c.args.j c.loop-a.a c.requires.s_bound.0 c.requires.s_bound.1 (turn_agent c.before.before) c.requires.move_of
      (to_z w32 c.loop-a.total-bits) c.loop-a.invariant.1 member c.cost.result is_cost c.resource_kind-kind.result c.resource_kind-kind.ensures)

pub combined-total-requires : goal.combined-total-requires
combined-total-requires c sums = subst (λ (y : ℤ). SFits w32 ((to_z w32 c.loop-a.total-bits) +ℤ y)) (sym (held c.before)) (fits c.before)

pub overflow_step-a : goal.overflow_step-a
overflow_step-a c = omega arith

pub loop-a-smaller : goal.loop-a-smaller
loop-a-smaller c = omega arith

pub loop-a-preserved : goal.loop-a-preserved
loop-a-preserved c =
    let agent = turn_agent c.before.before in
    let totals : TotalTo c.args.block.now c.args.team c.args.m c.args.s c.args.j (c.loop-a.a + 1) (to_z w32 c.if-rest-eq1.total-bits) =
    elim c.if-rest-eq1.branch [
      | then-rest-eq1 w ↦
          let place : At-After-cost = record { before = record { before = c.before.before; if-rest-eq1 = w.if-rest-eq1 }; cost = w.cost } in
          let all = joined place w.combined-total.result w.combined-total.ensures in
          let few : c.loop-a.a + 1 ≤ 3 = omega (arith, agent, c.requires.valid.sized.agents_fit) in
          subst (TotalTo c.args.block.now c.args.team c.args.m c.args.s c.args.j (c.loop-a.a + 1)) (sym (w.total-is ∙ to_z-of_z w32 w.combined-total.result (total_fits _ _ _ _ _ (c.loop-a.a + 1) _ few all))) all
      | else-rest-eq1 w ↦
          subst (TotalTo c.args.block.now c.args.team c.args.m c.args.s c.args.j (c.loop-a.a + 1)) (sym w.total-is)
          (total_other c.args.block.now c.requires.valid c.args.team c.args.m c.args.s c.args.j c.loop-a.a c.requires.s_bound.0 c.requires.s_bound.1 agent c.requires.move_of (to_z w32 c.loop-a.total-bits) c.loop-a.invariant.1
          (λ e. w.if-rest-eq1.false (omega (arith, c.loop-a.invariant.2))))
    ] in
    (omega arith, totals, shift _ 2 _ _ c.loop-a.invariant.2, shift _ 4 _ _ c.loop-a.invariant.3)

pub returns : goal.returns
returns c = let all : c.loop-a.a ≡ L.agents c.args.block.now = omega (arith, c.agents-n.ensures, c.loop-a.invariant.0, c.loop-a-test.false) in
    let total = subst (λ (n : ℕ). TotalTo c.args.block.now c.args.team c.args.m c.args.s c.args.j n (to_z w32 c.loop-a.total-bits)) all c.loop-a.invariant.1 in
    record { value = total.is; j_bound = (omega (arith, total.takes_few), omega (arith, total.gives_few)) }
