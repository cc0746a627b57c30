-- A text that is refused at a value gets the number of the block's condition at that very place (specs' Numbered).
--     broken_at     what is broken at a place is the block's condition
--     told          a field of a block whose byte may not stand there is broken at its place, field by field
--     numbered      the law
-- Assumes nothing.
use mathlib.Core.Bool.{Bool, true, false, cond, not}
use mathlib.Core.List.{List}
use mathlib.Core.Logic.{◌⊎◌, inl, inr, ⊎_elim}
use mathlib.Core.Path.{◌≡◌, refl, sym, ◌∙◌}
use Prim.Native.Nat.{ℕ, zero, suc, ◌+◌, ◌-◌, ◌≤◌, ◌<◌, ◌/◌, ◌^◌}
use native.Mathlib.Nat.{div-lt_iff_lt-mul, one-mul}
use native.Mathlib.Omega.{arith}
use lib.Dec.{T, ltb, leb, eqb, lit<}
use lib.ListN.{get_or}
use lib.Pow.{pow_pos}
use borrow.Author.Tests.{lt-ltb, ltb-true, ltb-false, leb-false, eqb-true, not-false}
use Rattle.block.specs.Decide.{Some, BitFrom}
use Rattle.block.specs.Layout.{Block, max_agents, max_resources, max_states, max_propositions, max_rows, max_actions, max_units, max_joint, bound_byte, unlimited, byte_values, charge_byte, sum_kind, max_kind, at, agents, resources, states, propositions, rows, mask, count, cost, kind, left, team, bound, prop_kind}
use Rattle.block.specs.Inner.Places.{InLayout}
use Rattle.block.specs.Refusal.{Meets}
use Rattle.block.specs.Check.{BadSizes, agents_range, resources_range, states_range, propositions_range, rows_range, prop_range, left_range, right_range, team_empty, team_absent, bound_range, operands, coalition, BadState, BadCharges, BadNext, BadRow, block_rules}
use Rattle.block.specs.declared.layout.Place.{Place}
use Rattle.block.specs.declared.layout.Place.TheVariants.{Cost, Field}
use Rattle.block.specs.declared.refusal.Refusal.{Refusal}
use Rattle.block.specs.declared.refusal.Refusal.TheVariants as refusal
use Rattle.block.proofs.Masks.{bit_above}
use Rattle.text.specs.declared.sizes.Edition.{Edition}
use Rattle.text.specs.Format.{Spelling, Stop, nowhere, stopped, stop}
use Rattle.text.specs.Numeral.{numbers}
use Rattle.text.specs.Job.{both, either, inf_bound, bound as boundSpelling, last_number, charge, cost_case, cost_units, cost_limit, cost_spelling, strategic, team_spelling, left_spelling, job}
use Rattle.text.specs.Broken.{BrokenAt, agents_at, resources_at, states_at, propositions_at, rows_at, mask_at, count_at, cost_at, next_at, prop_at, left_at, right_at, team_empty_at, team_absent_at, bound_at, charge_at, SharedByte, unlimited_number, cost_number, charge_number}
use Rattle.text.specs.Text.{blank, edition_of, read_text, NumberedAt, Numbered}
use Rattle.text.proofs.Decimals.{lt_or_ge}
use Rattle.text.proofs.Spellings.{bound_spelled, bound_itself}
use Rattle.text.proofs.Stops.{Barred, along_every, halted, misread}
use Rattle.text.proofs.DistinctPlaces.{job_proper}
use Rattle.text.specs.Inner.Fields.{kinds_to, sizes_of}
use Rattle.text.proofs.FieldsByName.{Everywhere, job_every}
use Rattle.text.proofs.Possible.{possible_acts}
use Rattle.text.proofs.KindTests.{binary_case, strategic_case}
use Rattle.text.proofs.Costs.{on_zero, on_other, limit_range, spellings_few, number_spelled, charge_spelled, is_number, is_charge}
use Rattle.text.proofs.Fitting.{kind_told}
use Rattle.text.proofs.Accepts.{blank_length}

-- the conditions of the sizes, the states and the rows, wherever they stand among the block's
sizes_met : {b : Block} → BadSizes b → Meets (block_rules b) refusal.Sizes
sizes_met h = search (inl, inr) depth 9

state_met : {b : Block} → Some (states b) (BadState b) → Meets (block_rules b) refusal.State
state_met h = search (inl, inr) depth 9

charge_met : {b : Block} → Some (states b) (BadCharges b) → Meets (block_rules b) refusal.Charge
charge_met h = search (inl, inr) depth 9

next_met : {b : Block} → Some (states b) (λ s. Some max_joint (BadNext b s)) → Meets (block_rules b) refusal.Next
next_met h = search (inl, inr) depth 9

row_met : {b : Block} → Some (rows b) (BadRow b) → Meets (block_rules b) refusal.Row
row_met h = search (inl, inr) depth 9

pub broken_at : {b : Block} {p : Place} {r : Refusal} → BrokenAt b p r → Meets (block_rules b) r
broken_at (agents_at h) = sizes_met (agents_range h)
broken_at (resources_at h) = sizes_met (resources_range h)
broken_at (states_at h) = sizes_met (states_range h)
broken_at (propositions_at h) = sizes_met (propositions_range h)
broken_at (rows_at h) = sizes_met (rows_range h)
broken_at (mask_at {s} hs h) = state_met (s, hs, inl h)
broken_at (count_at {s} {a} hs ha h) = state_met (s, hs, inr (a, ha, inl h))
broken_at (cost_at {s} {a} {k} {j} hs ha hk hj h) = state_met (s, hs, inr (a, ha, inr (k, hk, (j, hj, h))))
broken_at (charge_at {s} {a} {k} {j} hs ha hk hj h) = charge_met (s, hs, (a, ha, (k, hk, (j, hj, h))))
broken_at (next_at {s} {joint} hs h) = next_met (s, hs, (joint, h.0.0, h))
broken_at (prop_at {i} hi k h) = row_met (i, hi, operands (prop_range k h))
broken_at (left_at {i} hi k h) = row_met (i, hi, operands (left_range k h))
broken_at (right_at {i} hi k h) = row_met (i, hi, operands (right_range k h))
broken_at (team_empty_at {i} hi k h) = row_met (i, hi, coalition k (team_empty h))
broken_at (team_absent_at {i} hi k h) = row_met (i, hi, coalition k (team_absent h))
broken_at (bound_at {i} {j} hi k hj h) = row_met (i, hi, coalition k (bound_range (j, hj, h)))

-- a mask of 2 ^ p or more has a bit at or above p
bit_from : (p m : ℕ) → 2 ^ p ≤ m → BitFrom p m
bit_from p m h = bit_above p m (λ z. let small : m / 2 ^ p < 1 = omega arith in let below : m < 2 ^ p = rw one-mul at ((div-lt_iff_lt-mul (pow_pos p)).0 small) in omega arith)

not_both : (a b : Bool) → both a b ≡ false → (a ≡ false) ⊎ (b ≡ false)
not_both true b e = inr e
not_both false b e = inl e

not_either : (a b : Bool) → either a b ≡ false → (a ≡ false) × (b ≡ false)
not_either true b e = let z : ◌≡◌ {A = ℕ} 0 1 = cc in absurd (omega arith)
not_either false b e = (refl, e)

-- a number that may not stand there is below the lowest, or at the limit or above it
out_of_range : (low limit : ℕ) {o v : ℕ} → o ≡ v → both (leb low o) (ltb o limit) ≡ false → (v < low) ⊎ (limit ≤ v)
out_of_range low limit {o} e h = ⊎_elim
    (λ x. inl (omega (arith, leb-false low o x)))
    (λ x. inr (omega (arith, ltb-false o limit x)))
    (not_both (leb low o) (ltb o limit) h)

from_limit : (limit : ℕ) {o v : ℕ} → o ≡ v → both (leb 0 o) (ltb o limit) ≡ false → limit ≤ v
from_limit limit e h = ⊎_elim (λ x. absurd (omega arith)) (λ x. x) (out_of_range 0 limit e h)

over_limit : (k n : ℕ) → cost_limit k ≤ n → (k ≡ 0 → 0 < n) × (0 < k → max_units < n)
over_limit zero n h = (λ z. h, λ p. absurd (omega arith))
over_limit (suc k) n h = (λ z. absurd (omega arith), λ p. omega (arith, h, on_other (suc k) 1 (suc max_units) (omega arith)))

module _ (e : Edition) (b : Block) (t : List ℕ) where
  -- where the field's spelling with which the text t begins may not stand there, the block is broken at the field's place
  abbrev Told : Spelling → Place → Type 0
  Told x p = InLayout p → (h : Barred x (at b p) t) → BrokenAt b p (x.refusal h.option) ⊎ SharedByte b t p (x.refusal h.option)

  team_told : (i : ℕ) → i < rows b → T (strategic (kind b i)) → Told (team_spelling (sizes_of e b)) (Field i 3)
  team_told i hi s l x = ⊎_elim
      (λ h. inl (team_empty_at hi (strategic_case (kind b i) s) (omega arith)))
      (λ h. inl (team_absent_at hi (strategic_case (kind b i) s) (bit_from (agents b) (team b i) h)))
      (out_of_range 1 (2 ^ agents b) x.meant x.not_allowed)

  -- a bound that is refused is a number from 16 on
  bound_told : (i j : ℕ) → i < rows b → T (strategic (kind b i)) → j < resources b → Told boundSpelling (Field i (bound_byte + j))
  bound_told i j hi s hj l x =
      let (small, large) = not_either (ltb x.option (suc max_units)) (leb inf_bound x.option) x.not_allowed in
      let from : suc max_units ≤ x.option = ltb-false x.option (suc max_units) small in
      let below : x.option < numbers = leb-false inf_bound x.option large in
      let byte : x.option ≡ bound b i j = sym (bound_itself below) ∙ x.meant in
      let k = strategic_case (kind b i) s in
      ⊎_elim
      (λ h. inl (bound_at hi k hj (omega arith, λ e. omega arith)))
      (λ h. let full : x.option ≡ unlimited = omega arith in inr (unlimited_number hi k hj (sym byte ∙ full) (rw (full, bound_spelled unlimited (lit< tt)) at x.begins)))
      (lt_or_ge x.option unlimited)

  module _ {s a k j : ℕ} (hs : s < states b) (ha : a < agents b) (hk : k < count b s a) (hj : j < resources b) (left : ℕ) where
    abbrev spelling : Spelling
    spelling = cost_spelling e (get_or (kinds_to b (resources b)) j sum_kind) k left

    abbrev Refuses : Refusal → Type 0
    Refuses r = BrokenAt b (Cost s a k j) r ⊎ SharedByte b t (Cost s a k j) r

    -- a byte of idle
    idle_told : k < 1 → 0 < cost b s a k j → Refuses refusal.State
    idle_told z h = inl (cost_at hs ha hk hj (inr (omega arith, h)))

    -- more than an action takes, as a number
    number_told : (x : Barred spelling (cost b s a k j) t) → x.option < numbers → cost_limit k ≤ cost_units x.option → Refuses refusal.State
    number_told x h over =
        let o = x.option in
        let same : o ≡ cost b s a k j = sym (is_number o (byte_values - charge o) o h) ∙ x.meant in
        let units : cost_units o ≡ o = is_number o (charge o) o h in
        let (idle, acts) = over_limit k (cost_units o) over in
        ⊎_elim
        (λ z. idle_told z (omega (arith, idle (omega arith), units, same)))
        (λ p. ⊎_elim
        (λ g. inl (cost_at hs ha hk hj (inl (omega (arith, acts p, units, same), omega arith))))
        (λ g. inr (cost_number left hs ha hk hj p (omega arith) (rw (number_spelled o h, same) at x.begins)))
        (lt_or_ge o charge_byte))
        (lt_or_ge k 1)

    -- more than it gives, as a charge
    charge_told : (x : Barred spelling (cost b s a k j) t) → numbers ≤ x.option → cost_limit k ≤ cost_units x.option → Refuses refusal.State
    charge_told x h over =
        let o = x.option in
        let byte : byte_values - charge o ≡ cost b s a k j = sym (is_charge o (byte_values - charge o) o h) ∙ x.meant in
        let units : cost_units o ≡ charge o = is_charge o (charge o) o h in
        let few : o < numbers + last_number = omega (arith, x.few, spellings_few e) in
        let back : charge o ≡ byte_values - cost b s a k j = omega arith in
        let (idle, acts) = over_limit k (cost_units o) over in
        ⊎_elim
        (λ z. idle_told z (omega arith))
        (λ p. ⊎_elim
        (λ g. inr (charge_number left hs ha hk hj p (omega arith) (omega arith) (rw (charge_spelled o h, back) at x.begins)))
        (λ g. inl (cost_at hs ha hk hj (inl (g, omega (arith, acts p, units, byte)))))
        (lt_or_ge (cost b s a k j) (suc max_units)))
        (lt_or_ge k 1)

    -- a charge that an action may have, on a max resource
    max_told : InLayout (Cost s a k j) → (x : Barred spelling (cost b s a k j) t) → cost_units x.option < cost_limit k → Refuses refusal.Charge
    max_told l x within = ⊎_elim
        (λ h. let z : ◌≡◌ {A = ℕ} 0 1 = cc (sym (is_number true other o h) ∙ kind_bars) in absurd (omega arith))
        (λ h.
        let byte : byte_values - charge o ≡ cost b s a k j = sym (is_charge o (byte_values - charge o) o h) ∙ x.meant in
        let units : cost_units o ≡ charge o = is_charge o (charge o) o h in
        let small = (limit_range k (cost_units o) within).0 in
        let is : get_or (kinds_to b (resources b)) j sum_kind ≡ max_kind = eqb-true _ _ (not-false _ (sym (is_charge true other o h) ∙ kind_bars)) in
        inl (charge_at hs ha hk hj (sym (kind_told b j hj (omega arith)) ∙ is, omega arith)))
        (lt_or_ge o numbers)
      where
        o : ℕ
        o = x.option

        other : Bool
        other = not (eqb (get_or (kinds_to b (resources b)) j sum_kind) max_kind)

        kind_bars : cost_case true other o ≡ false
        kind_bars = rw (lt-ltb (cost_units o) (cost_limit k) within) at x.not_allowed

    cost_told : Told spelling (Cost s a k j)
    cost_told l x = on (ltb (cost_units x.option) (cost_limit k)) refl
      where
        on : (u : Bool) → ltb (cost_units x.option) (cost_limit k) ≡ u → Refuses (cond u refusal.Charge refusal.State)
        on true q = max_told l x (ltb-true (cost_units x.option) (cost_limit k) q)
        on false q =
            let over = ltb-false (cost_units x.option) (cost_limit k) q in
            ⊎_elim (λ h. number_told x h over) (λ h. charge_told x h over) (lt_or_ge x.option numbers)

  left_told : (i : ℕ) → i < rows b → Told (left_spelling (sizes_of e b) i (kind b i)) (Field i 1)
  left_told i hi l x =
      let limit = cond (eqb (kind b i) prop_kind) (propositions b) i in
      let from : limit ≤ left b i = from_limit limit x.meant x.not_allowed in
      ⊎_elim
      (λ h. let e : kind b i ≡ prop_kind = omega arith in inl (prop_at hi e (omega (arith, from, on_zero (kind b i) (propositions b) i e))))
      (λ h. inl (left_at hi h (omega (arith, from, on_other (kind b i) (propositions b) i h))))
      (lt_or_ge (kind b i) 1)

  told : Everywhere Told b e
  told = record {
    agents_field = λ _ x. inl (agents_at (out_of_range 1 (suc max_agents) x.meant x.not_allowed));
    resources_field = λ _ x. inl (resources_at (out_of_range 1 (suc max_resources) x.meant x.not_allowed));
    states_field = λ _ x. inl (states_at (out_of_range 1 (suc max_states) x.meant x.not_allowed));
    propositions_field = λ _ x. inl (propositions_at (out_of_range 1 (suc max_propositions) x.meant x.not_allowed));
    rows_field = λ _ x. inl (rows_at (out_of_range 1 (suc max_rows) x.meant x.not_allowed));
    resource_fields_lem = λ j _ hj _ x. let z : ◌≡◌ {A = ℕ} 0 1 = cc x.not_allowed in absurd (omega arith);
    state_fields = λ s _ hs. (
      λ _ x. inl (mask_at hs (bit_from (propositions b) (mask b s) (from_limit (2 ^ propositions b) x.meant x.not_allowed))),
      λ a _ ha. (
        λ _ x. inl (count_at hs ha (out_of_range 1 (suc max_actions) x.meant x.not_allowed)),
        λ k _ hk j _ hj. cost_told hs ha hk hj (count b s a - suc k + (resources b - suc j)),
      ),
      λ joint _ hj can _ x. inl (next_at hs ((hj, (possible_acts b s joint).0 can), from_limit (states b) x.meant x.not_allowed)),
    );
    row_fields = λ i _ hi. (
      λ _ x. let z : ◌≡◌ {A = ℕ} 0 1 = cc x.not_allowed in absurd (omega arith),
      λ s. (team_told i hi s, λ j _ hj. bound_told i j hi s hj),
      left_told i hi,
      λ s _ x. inl (right_at hi (binary_case (kind b i) s) (from_limit i x.meant x.not_allowed)),
    );
  }

pub numbered : (t : List ℕ) → Numbered t
numbered t = on (stop (job e) blank t) refl
  where
    e : Edition
    e = edition_of t

    on : (s : Stop) → stop (job e) blank t ≡ s → NumberedAt s (read_text t)
    on nowhere q = λ r rest. misread (job e) blank t r rest q
    on (stopped p b u) q =
        let h = halted (job e) blank t p b u (job_proper e) blank_length q in
        let field = along_every (Told e b u) h.along ((job_every _ b e).1 (told e b u)) h.in_layout h.barred in
        (h.spelling.refusal h.barred.option, h.refuses, ⊎_elim (λ bad. inl (bad, broken_at bad)) inr field)
