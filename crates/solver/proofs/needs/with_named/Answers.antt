-- `with_named` adds a bit for the left row and one for the right, where the kind has them.
use mathlib.Core.Logic.{inl, inr, ⊎_elim}
use mathlib.Core.Path.{◌≡◌, sym, ◌∙◌}
use Prim.Native.Nat.{◌<◌}
use native.Mathlib.Omega.{arith}
use Rattle.block.specs.Layout as L
use Rattle.block.proofs.Decide as D
use Rattle.solver.proofs.needs.with_named.Goals as goal
use Rattle.solver.proofs.needs.with_named.Lts as lts
use Rattle.solver.proofs.needs.with_named.Reads as reads
use Rattle.solver.proofs.needs.with_named.Tie as tie

abbrev At-After-left : Type 0
At-After-left = lts.After-left tie.the-claims reads.Pre reads.Post tie.handed_clauses

abbrev At-After-right : Type 0
At-After-right = lts.After-right tie.the-claims reads.Pre reads.Post tie.handed_clauses

abbrev At-Then-names_right : Type 0
At-Then-names_right = lts.Then2 tie.the-claims reads.Pre reads.Post tie.handed_clauses

-- a row of any kind but prop names a row left, and that is one of the 32
uses : (c : At-After-left) → L.prop_kind < L.kind c.args.block.now c.args.i
uses c = omega (arith, c.if-kind-eq-PROP_KIND.false, c.kind.ensures)

left_small : (c : At-After-left) → c.left.result < 32
left_small c = omega (arith, c.left.ensures, (c.requires.valid.row_fits c.args.i c.requires.i_bound.0).left_lower (uses c), c.requires.i_bound.0, c.requires.valid.sized.rows_fit)

binary : (c : At-Then-names_right) → L.Binary (L.kind c.args.block.now c.args.i)
binary c = D.truth c.names_right.ensures c.if-names_right.true

right_small : (c : At-After-right) → c.right.result < 32
right_small c = omega (arith, c.right.ensures, (c.requires.valid.row_fits c.args.i c.requires.i_bound.0).right_lower (binary c.before), c.requires.i_bound.0, c.requires.valid.sized.rows_fit)

pub returns-then-kind-eq-PROP_KIND : goal.returns-then-kind-eq-PROP_KIND
returns-then-kind-eq-PROP_KIND c = let prop : L.kind c.args.block.now c.args.i ≡ 0 = sym c.kind.ensures ∙ c.if-kind-eq-PROP_KIND.true in (
  c.requires.i_bound.1,
  λ j. ((λ one. inl one), ⊎_elim (λ one. one) (⊎_elim (λ (above, _). absurd (omega arith)) (λ (has, _). absurd (⊎_elim (λ e. omega (arith, e, prop)) (λ e. omega (arith, e, prop)) has)))),
)

pub with_bit-v-requires : goal.with_bit-v-requires
with_bit-v-requires c = (left_small c.before, c.requires.i_bound.1)

pub with_bit-requires : goal.with_bit-requires
with_bit-requires c = (right_small c.before, c.with_bit-v.ensures.0 32 (left_small c.before.before.before.before.before) c.requires.i_bound.1)

pub returns-then-names_right : goal.returns-then-names_right
returns-then-names_right c = (
  c.with_bit.ensures.0 32 (right_small c.before.before) (c.with_bit-v.ensures.0 32 (left_small c.before.before.before.before.before.before) c.requires.i_bound.1),
  λ j. (
    (λ one. ⊎_elim (λ h. ⊎_elim (λ h. inl h) (λ e. inr (inl (uses c.before.before.before.before.before.before, e ∙ c.left.ensures))) ((c.with_bit-v.ensures.1 j).0 h)) (λ e. inr (inr (binary c.before.before.before, e ∙ c.right.ensures))) ((c.with_bit.ensures.1 j).0 one)),
    ⊎_elim (λ h. (c.with_bit.ensures.1 j).1 (inl ((c.with_bit-v.ensures.1 j).1 (inl h)))) (⊎_elim (λ (_, e). (c.with_bit.ensures.1 j).1 (inl ((c.with_bit-v.ensures.1 j).1 (inr (e ∙ sym c.left.ensures))))) (λ (_, e). (c.with_bit.ensures.1 j).1 (inr (e ∙ sym c.right.ensures)))),
  ),
)

pub returns : goal.returns
returns c = (
  c.with_bit-v.ensures.0 32 (left_small c.before.before.before.before) c.requires.i_bound.1,
  λ j. (
    (λ one. ⊎_elim (λ h. inl h) (λ e. inr (inl (uses c.before.before.before.before, e ∙ c.left.ensures))) ((c.with_bit-v.ensures.1 j).0 one)),
    ⊎_elim (λ h. (c.with_bit-v.ensures.1 j).1 (inl h)) (⊎_elim (λ (_, e). (c.with_bit-v.ensures.1 j).1 (inr (e ∙ sym c.left.ensures))) (λ (has, _). absurd (D.falsity c.names_right.ensures c.if-names_right.false has))),
  ),
)
