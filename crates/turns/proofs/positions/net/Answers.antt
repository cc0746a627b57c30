-- `net` is the move's cost, unless the resource is unlimited.
use mathlib.Core.Path.{◌≡◌, refl, sym, ◌∙◌, ap, subst}
use Prim.Native.Nat.{ℕ, ◌≤◌}
use native.Mathlib.Omega.{arith}
use lib.IntN.{ℤ, sub_ℕ}
use mir.Syntax.{w32}
use mir.Val.{to_z, of_z}
use Rattle.block.specs.Layout as L
use Rattle.block.specs.Layout.{digit}
use Rattle.block.proofs.Signed.{sub_held}
use Rattle.game.specs.Rbatl.{move_cost, move_charge}
use Rattle.game.specs.Position.{MoveOf}
use Rattle.game.specs.Model.{bit, structure_of}
use Rattle.game.proofs.Blocks.Reading.{bound_unlimited, bound_limited}
use Rattle.turns.proofs.Costs.{net_unlimited, net_limited}
use Rattle.turns.proofs.positions.net.Goals as goal

pub returns-then-bound-eq-UNLIMITED : goal.returns-then-bound-eq-UNLIMITED
returns-then-bound-eq-UNLIMITED c = net_unlimited c.args.block.now c.args.i c.args.s c.args.m c.args.j _ (bound_unlimited c.args.block.now c.args.i c.args.j c.requires.i_bound.2 (sym c.bound.ensures ∙ c.if-bound-eq-UNLIMITED.true)) refl

pub cost-requires : goal.cost-requires
cost-requires c = record { valid = c.requires.valid; s_bound = (c.requires.i_bound.1, c.requires.i_bound.2); move_of = subst (λ (t : ℕ). MoveOf (structure_of c.args.block.now) (bit t) c.args.s c.args.m) (sym c.team.ensures) c.requires.move_of }

pub returns-else-bound-eq-UNLIMITED : goal.returns-else-bound-eq-UNLIMITED
returns-else-bound-eq-UNLIMITED c = let ne : L.bound c.args.block.now c.args.i c.args.j ≡ L.unlimited → ⊥ = λ e. c.if-bound-eq-UNLIMITED.false (c.bound.ensures ∙ e) in
    let takes : ℕ → ℕ = λ t. move_cost (structure_of c.args.block.now) (bit t) c.args.s (digit c.args.m) c.args.j in
    let gives : ℕ → ℕ = λ t. move_charge (structure_of c.args.block.now) (bit t) c.args.s (digit c.args.m) c.args.j in
    let few : takes (L.team c.args.block.now c.args.i) ≤ 45 = subst (λ (t : ℕ). takes t ≤ 45) c.team.ensures c.cost.ensures.j_bound.0 in
    let few' : gives (L.team c.args.block.now c.args.i) ≤ 45 = subst (λ (t : ℕ). gives t ≤ 45) c.team.ensures c.cost.ensures.j_bound.1 in
    let is : c.cost.result ≡ sub_ℕ (takes (L.team c.args.block.now c.args.i)) (gives (L.team c.args.block.now c.args.i)) = c.cost.ensures.value ∙ ap (λ (t : ℕ). sub_ℕ (takes t) (gives t)) c.team.ensures in
    let held = ap (λ (z : ℤ). to_z w32 (of_z w32 z)) is ∙ sub_held (takes (L.team c.args.block.now c.args.i)) (gives (L.team c.args.block.now c.args.i)) (omega arith) (omega arith) in
    net_limited c.args.block.now c.args.i c.args.s c.args.m c.args.j _ (bound_limited c.args.block.now c.args.i c.args.j c.requires.i_bound.2 ne) held few few'
