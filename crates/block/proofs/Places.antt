-- A number below block_bytes is that of one place of the layout only (specs' place_of), and every place in use is one of the layout.
-- Assumes nothing.
use mathlib.Core.Bool.{Bool, true, false}
use mathlib.Core.Logic.{⊎_elim}
use mathlib.Core.Path.{◌≡◌, sym, ap, ◌∙◌}
use Prim.Native.Nat.{ℕ, ◌-◌, ◌/◌, ◌%◌, ◌≤◌, ◌<◌}
use native.Mathlib.Omega.{arith}
use lib.Dec.{ltb}
use borrow.Author.Tests.{lt-ltb, le-ltb}
use Rattle.block.specs.Layout.{Block, max_agents, max_joint, row_bytes, action_costs, agent_costs, state_costs, mask_base, count_base, cost_base, next_base, row_base, resource_kind_base, place_of, InUse}
use Rattle.block.specs.Inner.Places.{InLayout}
use Rattle.block.specs.Inner.Valid.{Sized, Counted}
use Rattle.block.specs.declared.layout.Place.{Place}
use Rattle.block.specs.declared.layout.Place.TheVariants.{Header, Mask, Count, Cost, Next, Field, ResourceKind}

abbrev pick : Bool → Place → Place → Place
pick true x y = x
pick false x y = y

-- the place with number p, region by region
abbrev place_with : ℕ → Place
place_with p =
    pick (ltb p mask_base) (Header p)
    (pick (ltb p count_base) (Mask (p - mask_base))
    (pick (ltb p cost_base) (Count ((p - count_base) / max_agents) ((p - count_base) % max_agents))
    (pick (ltb p next_base) (Cost ((p - cost_base) / state_costs) ((p - cost_base) % state_costs / agent_costs) ((p - cost_base) % agent_costs / action_costs) ((p - cost_base) % action_costs))
    (pick (ltb p row_base) (Next ((p - next_base) / max_joint) ((p - next_base) % max_joint))
    (pick (ltb p resource_kind_base) (Field ((p - row_base) / row_bytes) ((p - row_base) % row_bytes))
    (ResourceKind (p - resource_kind_base)))))))

header : (p : ℕ) → p < mask_base → place_with p ≡ Header p
header p h = simp (lt-ltb p mask_base h)

mask_at : (p : ℕ) → mask_base ≤ p → p < count_base → place_with p ≡ Mask (p - mask_base)
mask_at p l h = simp (le-ltb p mask_base l, lt-ltb p count_base h)

count_at : (p : ℕ) → count_base ≤ p → p < cost_base → place_with p ≡ Count ((p - count_base) / max_agents) ((p - count_base) % max_agents)
count_at p l h = simp (le-ltb p mask_base (omega arith), le-ltb p count_base l, lt-ltb p cost_base h)

cost_at : (p : ℕ) → cost_base ≤ p → p < next_base → place_with p ≡ Cost ((p - cost_base) / state_costs) ((p - cost_base) % state_costs / agent_costs) ((p - cost_base) % agent_costs / action_costs) ((p - cost_base) % action_costs)
cost_at p l h = simp (le-ltb p mask_base (omega arith), le-ltb p count_base (omega arith), le-ltb p cost_base l, lt-ltb p next_base h)

next_at : (p : ℕ) → next_base ≤ p → p < row_base → place_with p ≡ Next ((p - next_base) / max_joint) ((p - next_base) % max_joint)
next_at p l h = simp (le-ltb p mask_base (omega arith), le-ltb p count_base (omega arith), le-ltb p cost_base (omega arith), le-ltb p next_base l, lt-ltb p row_base h)

field_at : (p : ℕ) → row_base ≤ p → p < resource_kind_base → place_with p ≡ Field ((p - row_base) / row_bytes) ((p - row_base) % row_bytes)
field_at p l h = simp (le-ltb p mask_base (omega arith), le-ltb p count_base (omega arith), le-ltb p cost_base (omega arith), le-ltb p next_base (omega arith), le-ltb p row_base l, lt-ltb p resource_kind_base h)

kind_at : (p : ℕ) → resource_kind_base ≤ p → place_with p ≡ ResourceKind (p - resource_kind_base)
kind_at p l = simp (le-ltb p mask_base (omega arith), le-ltb p count_base (omega arith), le-ltb p cost_base (omega arith), le-ltb p next_base (omega arith), le-ltb p row_base (omega arith), le-ltb p resource_kind_base l)

back : (x : Place) → InLayout x → place_with (place_of x) ≡ x
back (Header f) h = header f h
back (Mask s) h = mask_at (place_of (Mask s)) (omega arith) (omega arith) ∙ ap Mask (omega arith)
back (Count s a) h =
    let p = place_of (Count s a) in
    let e₁ : (p - count_base) / max_agents ≡ s = omega arith in
    let e₂ : (p - count_base) % max_agents ≡ a = omega arith in
    count_at p (omega arith) (omega arith) ∙ (cc)
back (Cost s a k j) h =
    let p = place_of (Cost s a k j) in
    let e₁ : (p - cost_base) / state_costs ≡ s = omega arith in
    let e₂ : (p - cost_base) % state_costs / agent_costs ≡ a = omega arith in
    let e₃ : (p - cost_base) % agent_costs / action_costs ≡ k = omega arith in
    let e₄ : (p - cost_base) % action_costs ≡ j = omega arith in
    cost_at p (omega arith) (omega arith) ∙ (cc)
back (Next s joint) h =
    let p = place_of (Next s joint) in
    let e₁ : (p - next_base) / max_joint ≡ s = omega arith in
    let e₂ : (p - next_base) % max_joint ≡ joint = omega arith in
    next_at p (omega arith) (omega arith) ∙ (cc)
back (Field i f) h =
    let p = place_of (Field i f) in
    let e₁ : (p - row_base) / row_bytes ≡ i = omega arith in
    let e₂ : (p - row_base) % row_bytes ≡ f = omega arith in
    field_at p (omega arith) (omega arith) ∙ (cc)
back (ResourceKind j) h = kind_at (place_of (ResourceKind j)) (omega arith) ∙ ap ResourceKind (omega arith)

pub one_place : (x y : Place) → InLayout x → InLayout y → place_of x ≡ place_of y → x ≡ y
one_place x y hx hy e = sym (back x hx) ∙ ap place_with e ∙ back y hy

pub used_in_layout : {b : Block} → Sized b → Counted b → (x : Place) → InUse b x → InLayout x
used_in_layout z k (Header f) h = h
used_in_layout z k (Mask s) h = omega arith
used_in_layout z k (Count s a) h = omega arith
used_in_layout z k (Cost s a n j) h = let m = k s a h.0 h.1 in omega arith
used_in_layout z k (Next s joint) h = (omega arith, h.1.0)
used_in_layout z k (ResourceKind j) h = omega arith
used_in_layout z k (Field i f) h = (omega arith, ⊎_elim (λ x. omega arith) (λ y. ⊎_elim (λ x. omega (arith, x.0)) (λ x. omega (arith, x.1)) y) h.1)
