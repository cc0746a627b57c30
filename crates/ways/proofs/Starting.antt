-- The first ranks, stored state by state. Assumes nothing.
use mathlib.Core.List.{List}
use mathlib.Core.Logic.{inl, inr, ⊎_elim}
use mathlib.Core.Path.{◌≡◌, refl, sym, ◌∙◌, ap, subst}
use Prim.Native.Nat.{ℕ, ◌+◌, ◌*◌, ◌-◌, ◌/◌, ◌≤◌, ◌<◌}
use native.Mathlib.Nat.{suc-mul, mul-add-div_right, div-eq_of_lt}
use native.Mathlib.Numerals.{add-one}
use native.Mathlib.Omega.{arith}
use Rattle.turns.specs.Buffers.{rank_in}
use Rattle.turns.specs.Inner.Stores.{Stored}
use Rattle.game.proofs.Numbers.Decide.{eq?, lt?}
use Rattle.ways.specs.First.{FirstRank, FirstIn, SpanStored}

-- a rank is stored at one position after another
pub span_none : {first rank : ℕ} {l : List ℕ} → SpanStored first first rank l l
span_none = record { inside = λ k low small. absurd (omega arith); others = λ k _. refl; long = refl }

pub span_next : {first p rank : ℕ} {l l' l'' : List ℕ} → first ≤ p → SpanStored first p rank l l' → Stored rank_in l' l'' p rank → SpanStored first (p + 1) rank l l''
span_next {first} {p} {rank} {l} {l'} {l''} low so_far put = record {
  inside = λ k from small. go k from small (eq? k p);
  others = λ k out. put.others k (λ e. ⊎_elim (λ (h : k < first). omega arith) (λ (h : p + 1 ≤ k). omega arith) out) ∙ so_far.others k (⊎_elim inl (λ (h : p + 1 ≤ k). inr (omega arith)) out);
  long = put.kept ∙ so_far.long;
}
  where
    go : (k : ℕ) → first ≤ k → k < p + 1 → Dec (k ≡ p) → rank_in l'' k ≡ rank
    go k from small (yes e) = ap (rank_in l'') e ∙ put.stored
    go k from small (no ne) = put.others k ne ∙ so_far.inside k from (omega arith)

-- the first ranks are there below n
abbrev pub FirstTo : ℕ → ℕ → ℕ → ℕ → ℕ → List ℕ → Type 0
FirstTo other goal c positions n l = (k : ℕ) → k < n → FirstRank other goal c positions k (rank_in l k)

-- those of one more state
pub state_first : (other goal c positions s rank : ℕ) {l l' : List ℕ} → (s + 1) * c ≤ positions → FirstIn other goal s rank → SpanStored (s * c) ((s + 1) * c) rank l l' → FirstTo other goal c positions (s * c) l → FirstTo other goal c positions ((s + 1) * c) l'
state_first other goal c positions s rank {l} {l'} few is span so_far k small = go (lt? k (s * c))
  where
    next : (s + 1) * c ≡ s * c + c
    next = ap (λ (n : ℕ). n * c) (add-one s) ∙ omega (arith, suc-mul s c)

    go : Dec (k < s * c) → FirstRank other goal c positions k (rank_in l' k)
    go (yes less) = subst (FirstRank other goal c positions k) (sym (span.others k (inl less))) (so_far k less)
    go (no ne) =
        let low : s * c ≤ k = omega arith in
        let place : k ≡ s * c + (k - s * c) = omega arith in
        let within : k - s * c < c = omega (arith, next) in
        let state : k / c ≡ s = ap (λ (n : ℕ). n / c) place ∙ mul-add-div_right (omega arith) s (k - s * c) ∙ ap (s +◌) (div-eq_of_lt within) ∙ omega arith in
        let rank_is = span.inside k low small in
        record {
          within = λ _. subst (λ (r : ℕ). FirstIn other goal (k / c) r) (sym rank_is) (subst (λ (t : ℕ). FirstIn other goal t rank) (sym state) is);
          outside = λ beyond. absurd (omega arith);
        }

-- and zeros past the last position
pub past_first : (other goal c positions end : ℕ) {l l' : List ℕ} → SpanStored positions end 0 l l' → FirstTo other goal c positions positions l → FirstTo other goal c positions end l'
past_first other goal c positions end {l} {l'} span so_far k small = go (lt? k positions)
  where
    go : Dec (k < positions) → FirstRank other goal c positions k (rank_in l' k)
    go (yes less) = subst (FirstRank other goal c positions k) (sym (span.others k (inl less))) (so_far k less)
    go (no ne) = record { within = λ inside. absurd (ne inside); outside = λ beyond. span.inside k beyond small }
