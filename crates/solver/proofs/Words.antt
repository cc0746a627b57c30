-- Sets built over rising states, and the kinds of a row. Assumes nothing.
use mathlib.Core.Bool.{Bool, true, false, cond}
use mathlib.Core.Logic.{◌⊎◌, ◌↔◌, inl, inr}
use mathlib.Core.Path.{◌≡◌, refl, sym, ◌∙◌, ap, subst}
use Prim.Native.Nat.{ℕ, ◌+◌, ◌%◌, ◌^◌, ◌≤◌, ◌<◌}
use native.Mathlib.Nat.{zero-div, pow-le-pow_right}
use native.Mathlib.Omega.{arith}
use lib.Dec.{eqb}
use borrow.Author.Tests.{ne_eqb}
use Rattle.block.specs.Decide.{Bit}
use Rattle.block.specs.Layout as L
use Rattle.block.specs.Layout.{Block}
use Rattle.game.specs.Model.{by_kind}
use Rattle.game.specs.Inner.Words.{Says}
use Rattle.game.proofs.Numbers.Decide.{eq?}

pub no_bits : (s : ℕ) → Bit 0 s → ⊥
no_bits s h = omega (arith, h, ap (λ (x : ℕ). x % 2) (zero-div (2 ^ s)))

module _ (Q : ℕ → Type 0) where
  -- the word says it of the first n states
  pub record SaysBelow (n w : ℕ) : Type 0 where
    pub few : w < 2 ^ n
    pub says : (x : ℕ) → Bit w x ↔ ((x < n) × Q x)

  pub longer : {s w : ℕ} → SaysBelow s w → (n : ℕ) → s ≤ n → w < 2 ^ n
  longer so_far n more = omega (arith, so_far.few, pow-le-pow_right {n = 2} (omega arith) more)

  pub says_none : SaysBelow 0 0
  says_none = record { few = omega arith; says = λ x. ((λ h. absurd (no_bits x h)), λ (l, _). absurd (omega arith)) }

  pub says_with : (s w r : ℕ) → SaysBelow s w → Q s → ((n : ℕ) → s < n → w < 2 ^ n → r < 2 ^ n) × ((x : ℕ) → Bit r x ↔ (Bit w x ⊎ (x ≡ s))) → SaysBelow (s + 1) r
  says_with s w r so_far holds (short, bits) = record { few = short (s + 1) (omega arith) (longer so_far (s + 1) (omega arith)); says = λ x. ((λ h. from x ((bits x).0 h)), λ (l, q). (bits x).1 (to x l q (eq? x s))) }
    where
      from : (x : ℕ) → Bit w x ⊎ (x ≡ s) → (x < s + 1) × Q x
      from x (inl h) = let (l, q) = (so_far.says x).0 h in (omega arith, q)
      from x (inr e) = (omega arith, subst Q (sym e) holds)

      to : (x : ℕ) → x < s + 1 → Q x → Dec (x ≡ s) → Bit w x ⊎ (x ≡ s)
      to x l q (yes e) = inr e
      to x l q (no ne) = inl ((so_far.says x).1 (omega arith, q))

  pub says_skip : (s w : ℕ) → SaysBelow s w → (Q s → ⊥) → SaysBelow (s + 1) w
  says_skip s w so_far fails = record {
    few = longer so_far (s + 1) (omega arith);
    says = λ x. ((λ h. let (l, q) = (so_far.says x).0 h in (omega arith, q)), λ (l, q). (so_far.says x).1 (other x l q (eq? x s), q));
  }
    where
      other : (x : ℕ) → x < s + 1 → Q x → Dec (x ≡ s) → x < s
      other x l q (yes e) = absurd (fails (subst Q e q))
      other x l q (no ne) = omega arith

  pub says_all : (b : Block) (w : ℕ) → L.states b ≤ 24 → SaysBelow (L.states b) w → Says b w Q
  says_all b w few all = (longer all 32 (omega arith), (all.few, λ s l. ((λ h. ((all.says s).0 h).1), λ q. (all.says s).1 (l, q))))

-- what stands for a strategic row, where it is one thing for all three kinds
pub strategic_stands : (k : ℕ) (A B C X : Type 0) → (k ≡ 0 → ⊥) → (k ≡ 1 → ⊥) → (k ≡ 2 → ⊥) → by_kind k A B C X X X ≡ X
strategic_stands k A B C X n₀ n₁ n₂ =
    ap (λ (t : Bool). cond t A (cond (eqb k 1) B (cond (eqb k 2) C (cond (eqb k 3) X (cond (eqb k 4) X X))))) (ne_eqb k 0 n₀)
    ∙ ap (λ (t : Bool). cond t B (cond (eqb k 2) C (cond (eqb k 3) X (cond (eqb k 4) X X)))) (ne_eqb k 1 n₁)
    ∙ ap (λ (t : Bool). cond t C (cond (eqb k 3) X (cond (eqb k 4) X X))) (ne_eqb k 2 n₂)
    ∙ same (eqb k 3) (eqb k 4)
  where
    same : (t u : Bool) → cond t X (cond u X X) ≡ X
    same true u = refl
    same false true = refl
    same false false = refl
