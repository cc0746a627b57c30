-- The fields of a block's text fit exactly where the block keeps to the conditions of numbers 2 to 5, and they are the places that it uses.
--     fits_valid, valid_fits        every field fits, and every other byte is 0, exactly where the block is valid
--     Tellable                      what a block may have that an edition tells
--     used_avoided, unused_avoided  a number that is none of the fields' places is that of no place in use, and the other way round
-- Assumes nothing.
use mathlib.Core.Bool.{Bool, true, false, cond}
use mathlib.Core.Logic.{inl, inr, ⊎_elim}
use mathlib.Core.Path.{◌≡◌, refl}
use Prim.Native.Nat.{ℕ, zero, suc, ◌+◌, ◌-◌, ◌^◌, ◌≤◌, ◌<◌, zero-le}
use native.Mathlib.Omega.{arith}
use lib.Dec.{eqb, lit<}
use lib.ListN.{length, get_or}
use lib.Pow.{pow_mono}
use Rattle.block.specs.Layout.{Block, max_agents, max_resources, max_states, max_propositions, max_rows, max_actions, max_units, bound_byte, block_bytes, place_of, InUse, Used, UsesField, byte_at, at, agents, resources, states, propositions, rows, count, cost, left, bound, kind, resource_kind, byte_values, charge_byte, sum_kind, max_kind, prop_kind}
use Rattle.block.specs.Inner.Valid.{Counted, RowFits, Valid}
use Rattle.block.specs.declared.layout.Place.{Place}
use Rattle.block.specs.declared.layout.Place.TheVariants.{Header, Mask, Count, Cost, Next, Field, ResourceKind}
use Rattle.text.specs.declared.sizes.Edition.{Edition}
use Rattle.text.specs.declared.sizes.Edition.TheVariants.{First, Second}
use Rattle.text.specs.Numeral.{numbers}
use Rattle.text.specs.Inner.Fields.{kinds_to}
use Rattle.text.specs.Job.{by_edition, no_kinds}
use Rattle.text.proofs.Decimals.{lt_or_ge}
use Rattle.text.proofs.Spellings.{Fits, number_range, number_fits, bound_range, bound_fits, kind_range, kind_fits, resource_range, resource_fits}
use Rattle.text.proofs.Costs.{on_zero, on_other, limit_range, range_limit, CostByte, cost_range, cost_fits}
use Rattle.text.proofs.Collecting.{collected_at}
use Rattle.text.proofs.FieldsByName.{Everywhere}
use Rattle.text.proofs.KindTests.{binary_true, binary_case, strategic_true, strategic_case}
use Rattle.text.proofs.Possible.{possible_acts}

either_le : (t : Bool) (p q n : ℕ) → p ≤ n → q ≤ n → cond t p q ≤ n
either_le true p q n h g = h
either_le false p q n h g = g

from_bound : (f r : ℕ) → bound_byte ≤ f → f < bound_byte + r → (f - bound_byte < r) × (bound_byte + (f - bound_byte) ≡ f)
from_bound f r h g = omega arith

-- what an edition can tell: all kinds and charges, or sum alone and no charge
pub record Tellable (e : Edition) (b : Block) : Type 0 where
  pub kinds : (j : ℕ) → j < resources b → resource_kind b j < by_edition e (suc sum_kind) (suc max_kind)
  pub costs : (s a k j : ℕ) → s < states b → a < agents b → k < count b s a → j < resources b → cost b s a k j < by_edition e charge_byte byte_values

-- every kind is one of edition 2's, and both editions have the bytes of numbers
told_most : (e : Edition) {v : ℕ} → v < by_edition e (suc sum_kind) (suc max_kind) → v ≤ max_kind
told_most First h = omega arith
told_most Second h = omega arith

told_least : (e : Edition) → charge_byte ≤ by_edition e charge_byte byte_values
told_least First = omega arith
told_least Second = omega arith

pub all_tellable : (b : Block) → Valid b → ((p : ℕ) → byte_at b p < byte_values) → Tellable Second b
all_tellable b v bytes = record {
  kinds = λ j hj. omega (arith, v.sized.kinds_fit j hj);
  costs = λ s a k j hs ha hk hj. bytes (place_of (Cost s a k j));
}

-- the kind that the first line has told of a resource
pub kind_told : (b : Block) (j : ℕ) → j < resources b → j < max_resources → get_or (kinds_to b (resources b)) j sum_kind ≡ resource_kind b j
kind_told b j hj l = collected_at (resource_kind b) no_kinds (resources b) j hj l

module _ (e : Edition) (b : Block) where
  abbrev FitsEverywhere : Type 0
  FitsEverywhere = Everywhere (λ x p. Fits x (at b p)) b e

  fits_cost : FitsEverywhere → (s a k j : ℕ) → s < states b → a < agents b → k < count b s a → j < resources b → CostByte e (resource_kind b j) k (cost b s a k j)
  fits_cost f s a k j hs ha hk hj =
      let r : resources b ≤ max_resources = omega (arith, number_range 1 (suc max_resources) f.resources_field) in
      rw (kind_told b j hj (omega arith)) at (cost_range e (get_or (kinds_to b (resources b)) j sum_kind) k (((f.state_fields s zero-le hs).1 a zero-le ha).1 k zero-le hk j zero-le hj))

  pub fits_tellable : FitsEverywhere → Tellable e b
  fits_tellable f = record {
    kinds = λ j hj. resource_range e (f.resource_fields_lem j zero-le hj);
    costs = λ s a k j hs ha hk hj. ⊎_elim (λ h. omega (arith, (limit_range k (cost b s a k j) h).0, told_least e)) (λ h. h.1) (fits_cost f s a k j hs ha hk hj);
  }

  row_valid : FitsEverywhere → (i : ℕ) → i < rows b → RowFits b i
  row_valid f i hi =
      let (k, t, l, r) = f.row_fields i zero-le hi in
      let limit = cond (eqb (kind b i) prop_kind) (propositions b) i in
      let below : left b i < limit = (number_range 0 limit l).1 in
      record {
        known = omega (arith, kind_range k);
        prop_fits = λ q. omega (arith, below, on_zero (kind b i) (propositions b) i q);
        left_lower = λ q. omega (arith, below, on_other (kind b i) (propositions b) i q);
        right_lower = λ q. (number_range 0 i (r (binary_true (kind b i) q))).1;
        team_some = λ q. (number_range 1 (2 ^ agents b) (t (strategic_true (kind b i) q)).0).0;
        team_fits = λ q. (number_range 1 (2 ^ agents b) (t (strategic_true (kind b i) q)).0).1;
        bound_fits = λ q j hj g. ⊎_elim (λ x. absurd (omega arith)) (λ x. x) (bound_range ((t (strategic_true (kind b i) q)).1 j zero-le hj));
      }

  pub fits_valid : FitsEverywhere → length b ≡ block_bytes → ((p : ℕ) → p < block_bytes → (Used b p → ⊥) → byte_at b p ≡ 0) → Valid b
  fits_valid f l u =
      let c : Counted b = λ s a hs ha. omega (arith, number_range 1 (suc max_actions) ((f.state_fields s zero-le hs).1 a zero-le ha).0) in
      record {
        sized = record {
          bytes = l;
          agents_fit = omega (arith, number_range 1 (suc max_agents) f.agents_field);
          resources_fit = omega (arith, number_range 1 (suc max_resources) f.resources_field);
          states_fit = omega (arith, number_range 1 (suc max_states) f.states_field);
          propositions_fit = omega (arith, number_range 1 (suc max_propositions) f.propositions_field);
          rows_fit = omega (arith, number_range 1 (suc max_rows) f.rows_field);
          kinds_fit = λ j hj. told_most e ((fits_tellable f).kinds j hj);
        };
        counted = c;
        mask_fits = λ s hs. (number_range 0 (2 ^ propositions b) (f.state_fields s zero-le hs).0).1;
        cost_fits = λ s a k j hs ha hk hj more. ⊎_elim (λ h. absurd (omega (arith, more, (limit_range k (cost b s a k j) h).0))) (λ h. h.0) (fits_cost f s a k j hs ha hk hj);
        charge_sums = λ s a k j hs ha hk hj from is. ⊎_elim (λ h. omega (arith, from, (limit_range k (cost b s a k j) h).0)) (λ h. h.3 is) (fits_cost f s a k j hs ha hk hj);
        idle_free = λ s a j hs ha hj. ⊎_elim (λ h. (limit_range 0 (cost b s a 0 j) h).1 refl) (λ h. absurd (omega (arith, h.2))) (fits_cost f s a 0 j hs ha (c s a hs ha).0 hj);
        next_fits = λ s joint hs av. (number_range 0 (states b) ((f.state_fields s zero-le hs).2 joint zero-le av.0 ((possible_acts b s joint).1 av.1))).1;
        row_fits = row_valid f;
        unused_zero = u;
      }

  cost_valid : Valid b → Tellable e b → (s a k j : ℕ) → s < states b → a < agents b → k < count b s a → j < resources b → CostByte e (resource_kind b j) k (cost b s a k j)
  cost_valid v told s a k j hs ha hk hj = ⊎_elim
      (λ few. inl (range_limit k (cost b s a k j) (omega arith) idle))
      (λ more. let from = v.cost_fits s a k j hs ha hk hj more in inr (from, told.costs s a k j hs ha hk hj, acts from, v.charge_sums s a k j hs ha hk hj from))
      (lt_or_ge (cost b s a k j) (suc max_units))
    where
      idle : k ≡ 0 → cost b s a k j ≡ 0
      idle z = rw z (v.idle_free s a j hs ha hj)

      acts : charge_byte ≤ cost b s a k j → 0 < k
      acts from = ⊎_elim (λ z. absurd (omega (arith, from, idle (omega arith)))) (λ p. p) (lt_or_ge k 1)

  left_valid : (i : ℕ) → RowFits b i → left b i < cond (eqb (kind b i) prop_kind) (propositions b) i
  left_valid i r = ⊎_elim
      (λ q. let e : kind b i ≡ 0 = omega arith in rw (on_zero (kind b i) (propositions b) i e) (r.prop_fits e))
      (λ q. rw (on_other (kind b i) (propositions b) i q) (r.left_lower q))
      (lt_or_ge (kind b i) 1)

  -- a mask of a few bits is a byte
  mask_byte : (m n : ℕ) → n ≤ max_propositions → m < 2 ^ n → m < numbers
  mask_byte m n h l = omega (arith, pow_mono h)

  pub valid_fits : Valid b → Tellable e b → FitsEverywhere
  valid_fits v told =
      let z = v.sized in
      record {
        agents_field = number_fits 1 (suc max_agents) z.agents_fit.0 (omega arith) (omega arith);
        resources_field = number_fits 1 (suc max_resources) z.resources_fit.0 (omega arith) (omega arith);
        states_field = number_fits 1 (suc max_states) z.states_fit.0 (omega arith) (omega arith);
        propositions_field = number_fits 1 (suc max_propositions) z.propositions_fit.0 (omega arith) (omega arith);
        rows_field = number_fits 1 (suc max_rows) z.rows_fit.0 (omega arith) (omega arith);
        resource_fields_lem = λ j _ hj. resource_fits e (told.kinds j hj);
        state_fields = λ s _ hs. (
          number_fits 0 (2 ^ propositions b) zero-le (v.mask_fits s hs) (mask_byte _ (propositions b) z.propositions_fit.1 (v.mask_fits s hs)),
          λ a _ ha. let c = v.counted s a hs ha in (
            number_fits 1 (suc max_actions) c.0 (omega arith) (omega arith),
            λ k _ hk j _ hj. cost_fits e (get_or (kinds_to b (resources b)) j sum_kind) k (rw (kind_told b j hj (omega arith)) (cost_valid v told s a k j hs ha hk hj)),
          ),
          λ joint _ hj t. let l = v.next_fits s joint hs (hj, (possible_acts b s joint).0 t) in number_fits 0 (states b) zero-le l (omega arith),
        );
        row_fields = λ i _ hi.
            let r = v.row_fits i hi in (
              kind_fits (omega (arith, r.known)),
              λ t. let q = strategic_case (kind b i) t in (
                number_fits 1 (2 ^ agents b) (r.team_some q) (r.team_fits q) (mask_byte _ (agents b) (omega arith) (r.team_fits q)),
                λ j _ hj. bound_fits (⊎_elim inl (λ g. inr (r.bound_fits q j hj g)) (lt_or_ge (bound b i j) (suc max_units))),
              ),
              number_fits 0 _ zero-le (left_valid i r) (omega (arith, left_valid i r, either_le (eqb (kind b i) prop_kind) (propositions b) i 255 (omega arith) (omega arith))),
              λ t. let l = r.right_lower (binary_case (kind b i) t) in number_fits 0 i zero-le l (omega arith),
            );
      }

  -- no field's place has the number n
  abbrev AvoidsEverywhere : ℕ → Type 0
  AvoidsEverywhere n = Everywhere (λ x p. place_of p ≡ n → ⊥) b e

  pub used_avoided : (n : ℕ) → AvoidsEverywhere n → Used b n → ⊥
  used_avoided n a u = place u.0 u.2 u.1
    where
      field : (i f : ℕ) → i < rows b → UsesField b (kind b i) f → place_of (Field i f) ≡ n → ⊥
      field i f hi (inl h) q = ⊎_elim
          (λ z. (a.row_fields i zero-le hi).0 (omega arith))
          (λ z. (a.row_fields i zero-le hi).2 (omega arith))
          (lt_or_ge f 1)
      field i f hi (inr (inl h)) q = (a.row_fields i zero-le hi).3 (binary_true (kind b i) h.1) (omega arith)
      field i f hi (inr (inr h)) q =
          let (t, bs) = (a.row_fields i zero-le hi).1 (strategic_true (kind b i) h.0) in
          ⊎_elim
          (λ z. t (omega arith))
          (λ z. let (l, s) = from_bound f (resources b) z h.1.1 in bs (f - bound_byte) zero-le l (rw s q))
          (lt_or_ge f bound_byte)

      place : (x : Place) → InUse b x → place_of x ≡ n → ⊥
      place (Header zero) h q = a.agents_field q
      place (Header (suc zero)) h q = a.resources_field q
      place (Header (suc (suc zero))) h q = a.states_field q
      place (Header (suc (suc (suc zero)))) h q = a.propositions_field q
      place (Header (suc (suc (suc (suc zero))))) h q = a.rows_field q
      place (Header (suc (suc (suc (suc (suc f)))))) h q = omega arith
      place (Mask s) h q = (a.state_fields s zero-le h).0 q
      place (Count s c) h q = ((a.state_fields s zero-le h.0).1 c zero-le h.1).0 q
      place (Cost s c k j) h q = ((a.state_fields s zero-le h.0).1 c zero-le h.1).1 k zero-le h.2 j zero-le h.3 q
      place (Next s joint) h q = (a.state_fields s zero-le h.0).2 joint zero-le h.1.0 ((possible_acts b s joint).1 h.1.1) q
      place (Field i f) h q = field i f h.0 h.1 q
      place (ResourceKind j) h q = a.resource_fields_lem j zero-le h q

  pub unused_avoided : (n : ℕ) → FitsEverywhere → (Used b n → ⊥) → AvoidsEverywhere n
  unused_avoided n f u = record {
    agents_field = λ q. u (Header 0, q, lit< tt);
    resources_field = λ q. u (Header 1, q, lit< tt);
    states_field = λ q. u (Header 2, q, lit< tt);
    propositions_field = λ q. u (Header 3, q, lit< tt);
    rows_field = λ q. u (Header 4, q, lit< tt);
    resource_fields_lem = λ j _ hj q. u (ResourceKind j, q, hj);
    state_fields = λ s _ hs. (
      λ q. u (Mask s, q, hs),
      λ a _ ha. (λ q. u (Count s a, q, (hs, ha)), λ k _ hk j _ hj q. u (Cost s a k j, q, (hs, ha, hk, hj))),
      λ joint _ hj t q. u (Next s joint, q, (hs, (hj, (possible_acts b s joint).0 t))),
    );
    row_fields = λ i _ hi. (
      λ q. u (Field i 0, q, (hi, inl (omega arith))),
      λ t. let str = strategic_case (kind b i) t in (
        λ q. u (Field i 3, q, (hi, inr (inr (str, (omega arith, omega arith))))),
        λ j _ hj q. u (Field i (bound_byte + j), q, (hi, inr (inr (str, (omega arith, omega arith))))),
      ),
      λ q. u (Field i 1, q, (hi, inl (omega arith))),
      λ t q. u (Field i 2, q, (hi, inr (inl (refl, binary_case (kind b i) t)))),
    );
  }
