-- The list filled from zeros, a pair after another. Assumes nothing.
use mathlib.Core.List.{List}
use mathlib.Core.Path.{◌≡◌, ◌∙◌, ap, subst}
use Prim.Native.Nat.{ℕ, ◌+◌, ◌*◌, ◌≤◌, ◌<◌}
use native.Mathlib.Omega.{arith}
use lib.ListN.{get_or, length, length-replicate, replicate}
use Rattle.block.specs.Layout as L
use Rattle.block.specs.Layout.{Block}
use Rattle.block.specs.Inner.Valid.{Valid}
use Rattle.turns.proofs.Bytes.{zero_byte, with_pair, pair_other, pair_stored, pair_length}
use Rattle.allowances.specs.Allowances.{allowances_bytes, allowance_in, AllowancesIn}
use Rattle.allowances.specs.Inner.Pairs.{Enough, Spans, FirstEnough}
use Rattle.allowances.proofs.Stairs.{Stairs, no_stairs, stairs_none, stairs_more}
use Rattle.allowances.proofs.Pairing.{stairs_listed}

-- the pairs with a first number below x are listed, and zeros stand after them
pub record FilledTo (b : Block) (i q first₀ first₁ end₁ : ℕ) (list : List ℕ) (n x end : ℕ) : Type 0 where
  pub stairs : Stairs (Enough b i q) first₀ first₁ end₁ (λ k. allowance_in list k 0) (λ k. allowance_in list k 1) n x end
  pub past : (p : ℕ) → L.max_resources * n ≤ p → get_or list p 0 ≡ 0
  pub long : length list ≡ allowances_bytes

module _ (b : Block) (i q first₀ first₁ end₁ : ℕ) where
  pub filled_none : (list : List ℕ) → list ≡ replicate allowances_bytes 0 → first₁ ≤ end₁ → FilledTo b i q first₀ first₁ end₁ list 0 first₀ end₁
  filled_none list zeros l = record {
    stairs = no_stairs _ _ _ _ _ _ l;
    past = λ p _. ap (λ (t : List ℕ). get_or t p 0) zeros ∙ zero_byte allowances_bytes p;
    long = ap length zeros ∙ length-replicate {A = ℕ} allowances_bytes 0;
  }

module _ {b : Block} {i q first₀ first₁ end₁ : ℕ} {list : List ℕ} {n x end r : ℕ} (filled : FilledTo b i q first₀ first₁ end₁ list n x end) (found : FirstEnough b i q x first₁ end r) where
  pub filled_skip : (r < end → ⊥) → FilledTo b i q first₀ first₁ end₁ list n (x + 1) end
  filled_skip none = record {
    stairs = stairs_none _ _ _ _ filled.stairs (λ v h. found.none v (omega arith));
    past = filled.past;
    long = filled.long;
  }

  pub filled_more : r < end → first₀ ≤ x → L.max_resources * n + 1 < length list → FilledTo b i q first₀ first₁ end₁ (with_pair list n x r) (n + 1) (x + 1) r
  filled_more low first inside = record {
    stairs =
        stairs_more _ _ _ _ filled.stairs r found.range.0 low (found.found low) found.none _ _
        (λ k l. (others (L.max_resources * k + 0) (λ e. omega arith) (λ e. omega arith), others (L.max_resources * k + 1) (λ e. omega arith) (λ e. omega arith)))
        (ap (λ (p : ℕ). get_or (with_pair list n x r) p 0) zeroth ∙ put.0, put.1) first;
    past = λ p h. others p (λ e. omega arith) (λ e. omega arith) ∙ filled.past p (omega arith);
    long = pair_length list n x r ∙ filled.long;
  }
    where
      put : (get_or (with_pair list n x r) (L.max_resources * n) 0 ≡ x) × (get_or (with_pair list n x r) (L.max_resources * n + 1) 0 ≡ r)
      put = pair_stored list n x r inside

      others : (p : ℕ) → (p ≡ L.max_resources * n → ⊥) → (p ≡ L.max_resources * n + 1 → ⊥) → get_or (with_pair list n x r) p 0 ≡ get_or list p 0
      others = pair_other list n x r

      zeroth : L.max_resources * n + 0 ≡ L.max_resources * n
      zeroth = omega arith

-- the same under other names
pub filled_as : {b : Block} {i q first₀ first₁ end₁ : ℕ} {list list' : List ℕ} {n n' x end end' : ℕ} → FilledTo b i q first₀ first₁ end₁ list n x end → list' ≡ list → n' ≡ n → end' ≡ end → FilledTo b i q first₀ first₁ end₁ list' n' x end'
filled_as filled e e' e'' = rw (e, e', e'') filled

pub filled_all : {b : Block} → Valid b → {i q first₀ end₀ first₁ end₁ : ℕ} → Spans b i 0 first₀ end₀ → Spans b i 1 first₁ end₁ → {list : List ℕ} {n x end : ℕ} → FilledTo b i q first₀ first₁ end₁ list n x end → x ≡ end₀ → AllowancesIn b i q list n
filled_all {b} valid {i} {q} {first₀} {end₀} {first₁} {end₁} zeroth other {list} {n} {x} {end} filled done =
    stairs_listed valid q zeroth other list
    (subst (λ (m : ℕ). Stairs (Enough b i q) first₀ first₁ end₁ (λ k. allowance_in list k 0) (λ k. allowance_in list k 1) n m end) done filled.stairs) filled.past filled.long
