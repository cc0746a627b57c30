-- Two blocks that differ in some fields of row i alone: their structures agree, the formulas below row i are the same, and so with any bounds is
-- the truth of row i itself where only its bounds differ. Assumes nothing.
use mathlib.Core.Bool.{Bool, cond}
use mathlib.Core.Logic.{◌↔◌}
use mathlib.Core.Path.{◌≡◌, refl, sym, ◌∙◌, ap, ap₂, fun_ext, subst}
use Prim.Native.Nat.{ℕ, zero, suc, ◌≤◌, ◌<◌}
use native.Mathlib.Decide.{dec_lt}
use native.Mathlib.Omega.{arith}
use lib.Dec.{eqb, ltb}
use borrow.Author.Tests.{le-ltb}
use Rattle.block.specs.Layout as L
use Rattle.block.specs.Layout.{Block}
use Rattle.block.specs.Inner.Valid.{Valid}
use Rattle.block.specs.Inner.OneRow.{OnlyFields, IsBound, SameAim}
use Rattle.block.proofs.OneRow.{same_agents, same_resources, same_states, same_mask, same_count, same_cost, same_next, same_kind, other_aim, other_bound, own_aim}
use Rattle.game.specs.Rbatl as R
use Rattle.game.specs.Rbatl.{unlimited, Bounds, Formula, Sat}
use Rattle.game.specs.Position.{joint}
use Rattle.game.specs.Model.{bit, by_kind, combine_of, structure_of, bound_of, bounds_by, formula_with, row_formula, formulas_below, formula_of, RowTrue, RowTrueWith}
use Rattle.game.proofs.Bridge.Agreeing.{Agrees, sat_same}
use Rattle.game.proofs.Blocks.Passing.{joint_available, valid_proper}

-- bounds by the numbers of the resources that there are
pub bounds_same : (b b' : Block) → L.resources b' ≡ L.resources b → (x y : ℕ → ℕ) → ((r : ℕ) → r < L.resources b → x r ≡ y r) → bounds_by b' x ≡ bounds_by b y
bounds_same b b' resources x y same = fun_ext (λ r. ap (λ (n : ℕ). cond (ltb r n) (bound_of (x r)) unlimited) resources ∙ go r (dec_lt r (L.resources b)))
  where
    go : (r : ℕ) → Dec (r < L.resources b) → cond (ltb r (L.resources b)) (bound_of (x r)) unlimited ≡ cond (ltb r (L.resources b)) (bound_of (y r)) unlimited
    go r (yes l) = ap (λ (n : ℕ). cond (ltb r (L.resources b)) (bound_of n) unlimited) (same r l)
    go r (no h) =
        let none : ltb r (L.resources b) ≡ _ = le-ltb r (L.resources b) (omega arith) in
        ap (λ (t : Bool). cond t (bound_of (x r)) unlimited) none ∙ sym (ap (λ (t : Bool). cond t (bound_of (y r)) unlimited) none)

-- a row's formula by its fields
abbrev formula_by : ℕ → ℕ → ℕ → ℕ → Bounds → (ℕ → Formula) → Formula
formula_by kind left right team bounds lower =
    by_kind kind
    (R.prop left) (R.not (lower left)) (R.or (lower left) (lower right))
    (R.next (bit team) bounds (lower left)) (R.always (bit team) bounds (lower left)) (R.until (bit team) bounds (lower left) (lower right))

module _ {i : ℕ} {Changed : ℕ → Type 0} {b b' : Block} (valid : Valid b) (inside : i < L.rows b) (only : OnlyFields i Changed b b') where
  structures_agree : Agrees (structure_of b) (structure_of b')
  structures_agree = record {
    agents = same_agents valid inside only;
    resources = same_resources valid inside only;
    states = same_states valid inside only;
    holds = λ p q l. ap (λ (m : ℕ). bit m p) (same_mask valid inside only q l);
    actions = same_count valid inside only;
    cost = λ q a k r l la lk lr. ap L.taken (same_cost valid inside only q a k r l la lk lr);
    charge = λ q a k r l la lk lr. ap L.given (same_cost valid inside only q a k r l la lk lr);
    combine = λ r x y. ap (λ (k : ℕ). combine_of k x y) (same_kind valid inside only r);
    next = λ q m l available.
        ap (λ (n : ℕ). L.next b' q (joint n m)) (same_agents valid inside only)
        ∙ same_next valid inside only q (joint (L.agents b) m) l (joint_available b valid q m l available).0;
  }

  -- the formula of a row with the same aim
  formula_same : (k : ℕ) → SameAim k b b' → {bounds bounds' : Bounds} → bounds' ≡ bounds → {lower lower' : ℕ → Formula} → lower' ≡ lower → formula_with b' k bounds' lower' ≡ formula_with b k bounds lower
  formula_same k aim {bounds} {bounds'} eb {lower} {lower'} eo =
      let e : formula_by (L.kind b' k) (L.left b' k) (L.right b' k) (L.team b' k) bounds' lower' ≡ formula_by (L.kind b k) (L.left b k) (L.right b k) (L.team b k) bounds lower =
      rw (aim.kind, aim.left, aim.right, aim.team, eb, eo) in
      e

  -- those of lower rows
  row_same : (k : ℕ) → k < i → formulas_below b' k ≡ formulas_below b k → row_formula b' k (formulas_below b' k) ≡ row_formula b k (formulas_below b k)
  row_same k lower =
      let other : k ≡ i → ⊥ = λ e. omega arith in
      formula_same k (other_aim valid inside only k other)
      (bounds_same b b' (same_resources valid inside only) (L.bound b' k) (L.bound b k) (other_bound valid inside only k other))

  formulas_same : (k : ℕ) → k ≤ i → formulas_below b' k ≡ formulas_below b k
  formulas_same zero l = refl
  formulas_same (suc k) l =
      let below = formulas_same k (omega arith) in
      fun_ext (λ j. ap₂ (cond (eqb j k)) (row_same k (omega arith) below) (ap (λ (lower : ℕ → Formula). lower j) below))

-- the truth of the rows below row i
module _ {i : ℕ} {Changed : ℕ → Type 0} {b b' : Block} (valid : Valid b) (valid' : Valid b') (inside : i < L.rows b) (only : OnlyFields i Changed b b') where
  pub lower_same : (k : ℕ) → k < i → (q : ℕ) → q < L.states b → RowTrue b k q ↔ RowTrue b' k q
  lower_same k lower q l =
      let formula = row_same valid inside only k lower (formulas_same valid inside only k (omega arith)) in
      subst (λ (φ : Formula). RowTrue b k q ↔ Sat (structure_of b') φ q) (sym formula)
      (sat_same (structures_agree valid inside only) (valid_proper b valid) (valid_proper b' valid') (formula_of b k) q l)

-- row i with any bounds, where only its own bounds differ
module _ {i : ℕ} {b b' : Block} (valid : Valid b) (valid' : Valid b') (inside : i < L.rows b) (only : OnlyFields i (IsBound b) b b') where
  pub with_same : (x : ℕ → ℕ) (q : ℕ) → q < L.states b → RowTrueWith b i (bounds_by b x) q ↔ RowTrueWith b' i (bounds_by b' x) q
  with_same x q l =
      let formula =
      formula_same valid inside only i (own_aim valid inside only)
      (bounds_same b b' (same_resources valid inside only) x x (λ r _. refl)) (formulas_same valid inside only i (omega arith)) in
      subst (λ (φ : Formula). RowTrueWith b i (bounds_by b x) q ↔ Sat (structure_of b') φ q) (sym formula)
      (sat_same (structures_agree valid inside only) (valid_proper b valid) (valid_proper b' valid') (formula_with b i (bounds_by b x) (formulas_below b i)) q l)

  -- put into the job: the row of the other block is this one's with its bounds
  pub put_in : (q : ℕ) → q < L.states b → RowTrueWith b i (bounds_by b (L.bound b' i)) q ↔ RowTrue b' i q
  put_in = with_same (L.bound b' i)
