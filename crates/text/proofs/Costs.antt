-- How a cost is spelled (specs' cost_spelling): a number, or in edition 2 a charge, a minus before a number that is not 0.
--     limit_range, range_limit      the units of an action's cost
--     number_spelled, charge_spelled, number-itself, charge-byte    what stands in the text, and the byte
--     CostShape, cost_shape         which of the two a text begins with shows in its first byte
--     cost_range, cost_fits         which bytes fit
-- Assumes nothing.
use mathlib.Core.Bool.{true, cond, not}
use mathlib.Core.List.{List, [], ◌∷◌, ◌++◌}
use mathlib.Core.Logic.{◌⊎◌, inl, inr, ⊎_elim}
use mathlib.Core.Path.{◌≡◌, refl, sym, ◌∙◌}
use Prim.Native.Nat.{ℕ, zero, suc, ◌+◌, ◌-◌, ◌≤◌, ◌<◌}
use native.Mathlib.Omega.{arith}
use lib.Dec.{T, ltb, eqb, ltb→lt, lt→ltb}
use lib.ListN.{get_or, drop}
use borrow.Author.Tests.{lt-ltb, le-ltb, eq-eqb, ne_eqb}
use Rattle.block.specs.Layout.{max_units, byte_values, charge_byte, max_kind}
use Rattle.text.specs.Numeral.{minus, numbers, decimal, field, Starts}
use Rattle.text.specs.declared.sizes.Edition.{Edition}
use Rattle.text.specs.declared.sizes.Edition.TheVariants.{First, Second}
use Rattle.text.specs.Job.{by_edition, list_end, last_number, cost_spellings, charge, cost_case, cost_field, cost_units, cost_limit, cost_spelling}
use Rattle.text.proofs.Decimals.{lt_or_ge, first_digit, only_one}
use Rattle.text.proofs.Spellings.{Fits, Clear, list_end_small, both_true, both_left, both_right}

-- the limit of a field that depends on whether a number is 0
pub on_zero : (k p q : ℕ) → k ≡ 0 → cond (eqb k 0) p q ≡ p
on_zero k p q e = simp (eq-eqb k 0 e)

pub on_other : (k p q : ℕ) → 0 < k → cond (eqb k 0) p q ≡ q
on_other k p q h = simp (ne_eqb k 0 (λ e. omega arith))

pub limit_range : (k n : ℕ) → n < cost_limit k → (n ≤ max_units) × (k ≡ 0 → n ≡ 0)
limit_range zero n h = (omega arith, λ e. omega arith)
limit_range (suc k) n h = (omega (arith, h, on_other (suc k) 1 (suc max_units) (omega arith)), λ e. absurd (omega arith))

pub range_limit : (k n : ℕ) → n ≤ max_units → (k ≡ 0 → n ≡ 0) → n < cost_limit k
range_limit zero n h idle = omega (arith, idle refl)
range_limit (suc k) n h idle = omega (arith, h, on_other (suc k) 1 (suc max_units) (omega arith))

-- the editions have so many spellings
pub numbers_few : (e : Edition) → numbers ≤ cost_spellings e
numbers_few First = omega arith
numbers_few Second = omega arith

pub spellings_few : (e : Edition) → cost_spellings e ≤ numbers + last_number
spellings_few First = omega arith
spellings_few Second = omega arith

-- a number is spelled as in every field and stands for itself; a charge has a minus before it
pub number_spelled : (o : ℕ) → o < numbers → cost_field o ≡ decimal o
unfolding cost_field
number_spelled o h = simp (lt-ltb o numbers h)

pub charge_spelled : (o : ℕ) → numbers ≤ o → cost_field o ≡ minus ∷ decimal (charge o)
unfolding cost_field
charge_spelled o h = simp (le-ltb o numbers h)

pub is_number : {A : Type 0} (x y : A) (o : ℕ) → o < numbers → cost_case x y o ≡ x
is_number x y o h = simp (lt-ltb o numbers h)

pub is_charge : {A : Type 0} (x y : A) (o : ℕ) → numbers ≤ o → cost_case x y o ≡ y
is_charge x y o h = simp (le-ltb o numbers h)

-- the spelling that a text begins with shows in its first byte
pub data CostShape (sep o : ℕ) (t : List ℕ) : Type 0 where
  plain : o < numbers → Starts (field o sep) t → 48 ≤ get_or t 0 0 → CostShape sep o t
  charged : numbers ≤ o → get_or t 0 0 ≡ minus → Starts (field (charge o) sep) (drop 1 t) → CostShape sep o t

pub cost_shape : (sep o : ℕ) (t : List ℕ) → Starts (cost_field o ++ sep ∷ []) t → CostShape sep o t
cost_shape sep o t s = ⊎_elim below above (lt_or_ge o numbers)
  where
    below : o < numbers → CostShape sep o t
    below h = let d : Starts (field o sep) t = rw (number_spelled o h) at s in plain h d (first_digit sep o t (omega arith) d).0

    above : numbers ≤ o → CostShape sep o t
    above h =
        let d : t ≡ minus ∷ (field (charge o) sep ++ s.0) = rw (charge_spelled o h) at s.1 in
        charged h (rw d) (s.0, rw d refl)

pub cost_only : (sep : ℕ) → sep < 48 → (t : List ℕ) (o o' : ℕ) → o < numbers + last_number → o' < numbers + last_number →
    Starts (cost_field o ++ sep ∷ []) t → Starts (cost_field o' ++ sep ∷ []) t → o ≡ o'
cost_only sep low t o o' l l' s s' = same (cost_shape sep o t s) (cost_shape sep o' t s')
  where
    same : CostShape sep o t → CostShape sep o' t → o ≡ o'
    same (plain h d x) (plain h' d' x') = only_one sep low o o' h h' t d d'
    same (plain h d x) (charged h' x' d') = absurd (omega arith)
    same (charged h x d) (plain h' d' x') = absurd (omega arith)
    same (charged h x d) (charged h' x' d') =
        let number : charge o ≡ charge o' = only_one sep low (charge o) (charge o') (omega arith) (omega arith) (drop 1 t) d d' in
        omega arith

-- the bytes of an action's costs: of a number, and of a charge where the edition has them and the resource takes them
abbrev pub CostByte : Edition → ℕ → ℕ → ℕ → Type 0
CostByte e kind k v = (v < cost_limit k) ⊎ ((charge_byte ≤ v) × (v < by_edition e charge_byte byte_values) × (0 < k) × (kind ≡ max_kind → ⊥))

-- what fits does not depend on how many follow
abbrev pub FitsCost : Edition → ℕ → ℕ → ℕ → Type 0
FitsCost e kind k v = Fits (cost_spelling e kind k 0) v

not_kind_lem : (kind : ℕ) → T (not (eqb kind max_kind)) → kind ≡ max_kind → ⊥
not_kind_lem kind h e = let f : T (not (eqb max_kind max_kind)) = rw e at h in absurd f

other_kind : (kind : ℕ) → (kind ≡ max_kind → ⊥) → T (not (eqb kind max_kind))
other_kind kind h = rw (ne_eqb kind max_kind h) tt

-- an edition that has a charge's byte has all spellings
has_charges : (e : Edition) {v : ℕ} → charge_byte ≤ v → v < by_edition e charge_byte byte_values → (v < byte_values) × (cost_spellings e ≡ numbers + last_number)
has_charges First h l = absurd (omega arith)
has_charges Second h l = (l, refl)

module _ (e : Edition) (kind k : ℕ) where
  pub cost_range : {v : ℕ} → FitsCost e kind k v → CostByte e kind k v
  cost_range {v} (o, l, allowed, b) = ⊎_elim below above (lt_or_ge o numbers)
    where
      units : cost_units o < cost_limit k
      units = ltb→lt (cost_units o) (cost_limit k) (both_left (ltb (cost_units o) (cost_limit k)) (cost_case true (not (eqb kind max_kind)) o) allowed)

      kind_allows : T (cost_case true (not (eqb kind max_kind)) o)
      kind_allows = both_right (ltb (cost_units o) (cost_limit k)) (cost_case true (not (eqb kind max_kind)) o) allowed

      below : o < numbers → CostByte e kind k v
      below h =
          let itself : o ≡ v = sym (is_number o (byte_values - charge o) o h) ∙ b in
          let is : cost_units o ≡ o = is_number o (charge o) o h in
          inl (omega (arith, units, is, itself))

      above : numbers ≤ o → CostByte e kind k v
      above h =
          let byte : byte_values - charge o ≡ v = sym (is_charge o (byte_values - charge o) o h) ∙ b in
          let is : cost_units o ≡ charge o = is_charge o (charge o) o h in
          let few : charge o < cost_limit k = omega (arith, units, is) in
          let (small, idle) = limit_range k (charge o) few in
          let acts : 0 < k = ⊎_elim (λ z. let zeroed : charge o ≡ 0 = idle (omega arith) in absurd (omega arith)) (λ p. p) (lt_or_ge k 1) in
          let sums : T (not (eqb kind max_kind)) = rw (is_charge true (not (eqb kind max_kind)) o h) at kind_allows in
          inr (omega arith, in_edition e l (omega arith), acts, not_kind_lem kind sums)
        where
          in_edition : (e : Edition) → o < cost_spellings e → v < byte_values → v < by_edition e charge_byte byte_values
          in_edition First f g = absurd (omega arith)
          in_edition Second f g = g

  -- spelling o may stand there, and stands for the byte v
  abbrev Means : ℕ → ℕ → Type 0
  Means o v = (o < cost_spellings e) × T ((cost_spelling e kind k 0).allowed o) × ((cost_spelling e kind k 0).byte o ≡ v)

  number_means : (v : ℕ) → v < cost_limit k → Means v v
  number_means v h =
      let few = (limit_range k v h).0 in
      let small : v < numbers = omega arith in (
        omega (arith, numbers_few e),
        rw (is_number v (charge v) v small, is_number true (not (eqb kind max_kind)) v small) (both_true (ltb v (cost_limit k)) true (lt→ltb v (cost_limit k) h) tt),
        is_number v (byte_values - charge v) v small,
      )

  charge_means : (v : ℕ) → charge_byte ≤ v → v < by_edition e charge_byte byte_values → 0 < k → (kind ≡ max_kind → ⊥) → Means (last_number + (byte_values - v)) v
  charge_means v from below acts sums =
      let (byte, all) = has_charges e from below in
      let o = last_number + (byte_values - v) in
      let large : numbers ≤ o = omega arith in
      let few : charge o < cost_limit k = range_limit k (charge o) (omega arith) (λ z. absurd (omega arith)) in
      let itself : byte_values - charge o ≡ v = omega arith in (
        omega arith,
        rw (is_charge o (charge o) o large, is_charge true (not (eqb kind max_kind)) o large) (both_true (ltb (charge o) (cost_limit k)) (not (eqb kind max_kind)) (lt→ltb (charge o) (cost_limit k) few) (other_kind kind sums)),
        is_charge o (byte_values - charge o) o large ∙ itself,
      )

  pub cost_fits : {v : ℕ} → CostByte e kind k v → FitsCost e kind k v
  cost_fits {v} (inl h) = let m = number_means v h in (v, m.0, m.1, m.2)
  cost_fits {v} (inr (from, below, acts, sums)) = let m = charge_means v from below acts sums in (last_number + (byte_values - v), m.0, m.1, m.2)

  pub cost_clear : (left : ℕ) → Clear (cost_spelling e kind k left)
  cost_clear left = record {
    only = λ t o o' l l' s s'. cost_only (list_end left) (list_end_small left) t o o' (omega (arith, spellings_few e)) (omega (arith, spellings_few e)) s s';
    meant = λ v f. meant v (cost_range f);
  }
    where
      meant : (v : ℕ) → CostByte e kind k v → Means ((cost_spelling e kind k left).chosen v) v
      meant v (inl h) =
          let small : v < charge_byte = omega (arith, (limit_range k v h).0) in
          rw (lt-ltb v charge_byte small) (number_means v h)
      meant v (inr (from, below, acts, sums)) = rw (le-ltb v charge_byte from) (charge_means v from below acts sums)
