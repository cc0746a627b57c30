-- The plan lines of a set, from its lowest state up (specs' plan_lines). Assumes nothing.
--     planned_none     before the first state
--     planned_next     one more line, for the lowest state from a place on
--     planned_all      no state is left
use mathlib.Core.Bool.{Bool, cond}
use mathlib.Core.List.{List, [], ◌++◌, append-nil}
use mathlib.Core.Logic.{⊎_elim}
use mathlib.Core.Path.{◌≡◌, refl, sym, ap, subst, ◌∙◌}
use Prim.Native.Nat.{ℕ, zero, suc, ◌+◌, ◌*◌, ◌/◌, ◌%◌, ◌^◌, ◌≤◌, ◌<◌}
use native.Mathlib.Numerals.{add-one}
use native.Mathlib.Omega.{arith}
use borrow.Author.Tests.{eq-eqb, ne_eqb}
use Rattle.block.specs.Decide.{Bit}
use Rattle.block.specs.Inner.Tests.{Lowest}
use Rattle.block.specs.Layout as L
use Rattle.block.specs.Layout.{Block}
use Rattle.block.proofs.Masks.{no_bit_above}
use Rattle.block.proofs.Ones.{lowest_from}
use Rattle.text.specs.declared.output.Output.{Output}
use Rattle.text.specs.Inner.Adding.{front, Adds, SameBuffer}
use Rattle.text.proofs.Adding.{adds_then}
use Rattle.text.proofs.Decimals.{lt_or_ge}
use Rattle.game.specs.Table.{Table}
use Rattle.report.specs.Listing.{parts, plan_at, plan_of, plan_lines}

parts_next : (part : ℕ → List ℕ) (n : ℕ) → parts part (n + 1) ≡ parts part n ++ part n
unfolding parts
parts_next part n = ap (parts part) (add-one n)

parts_suc : (part : ℕ → List ℕ) (n : ℕ) → parts part (suc n) ≡ parts part n ++ part n
unfolding parts
parts_suc part n = refl

-- parts that are empty may be left out
parts_skip : (part : ℕ → List ℕ) (m n : ℕ) → m ≤ n → ((x : ℕ) → m ≤ x → x < n → part x ≡ []) → parts part n ≡ parts part m
parts_skip part m zero h none = ap (parts part) (omega arith)
parts_skip part m (suc n) h none = ⊎_elim
    (λ less.
    parts_suc part n
    ∙ ap (λ (l : List ℕ). parts part n ++ l) (none n (omega arith) (omega arith))
    ∙ append-nil (parts part n)
    ∙ parts_skip part m n (omega arith) (λ x l u. none x l (omega arith)))
    (λ more. ap (parts part) (omega arith))
    (lt_or_ge m (suc n))

module _ (b : Block) (i w : ℕ) (X : Table) where
  there : (s : ℕ) → Bit w s → plan_of b i w X s ≡ plan_at b i X s
  there s one = ap (λ (t : Bool). cond t (plan_at b i X s) []) (eq-eqb (w / 2 ^ s % 2) 1 one)

  missing : (s : ℕ) → (Bit w s → ⊥) → plan_of b i w X s ≡ []
  missing s not = ap (λ (t : Bool). cond t (plan_at b i X s) []) (ne_eqb (w / 2 ^ s % 2) 1 not)

  -- the lines of the states below from have been written
  pub record Planned (t u : Output) (from : ℕ) : Type 0 where
    pub so : Adds (parts (plan_of b i w X) from) t u
    pub near : u.len ≤ t.len + from * 41
    pub inside : from ≤ L.states b
    pub same : SameBuffer t u

  pub planned_none : (t : Output) → Planned t t 0
  unfolding parts
  planned_none t = record { so = λ rest. refl; near = omega arith; inside = omega arith; same = (refl, refl) }

  module _ (states : (s : ℕ) → Bit w s → s < L.states b) {t u : Output} {from : ℕ} (p : Planned t u from) where
    -- from here on the lowest state is k further
    module _ (k : ℕ) (low : Lowest (w / 2 ^ from) k) where
      found : Bit w (from + k)
      found = (lowest_from w from k low).0

      pub state_inside : from + k < L.states b
      state_inside = states (from + k) found

      skipped : parts (plan_of b i w X) (from + k) ≡ parts (plan_of b i w X) from
      skipped = parts_skip (plan_of b i w X) from (from + k) (omega arith) (λ x l u. missing x ((lowest_from w from k low).1 x l u))

      pub planned_next : {v : Output} → Adds (plan_at b i X (from + k)) u v → v.len ≤ u.len + 41 → SameBuffer u v → Planned t v (from + k + 1)
      planned_next {v} added short same = record {
        so = subst (λ (l : List ℕ). Adds l t v) (sym (line ∙ ap (λ (l : List ℕ). l ++ plan_at b i X (from + k)) skipped)) (adds_then (parts (plan_of b i w X) from) (plan_at b i X (from + k)) t u v p.so added);
        near = omega (arith, p.near);
        inside = omega (arith, state_inside);
        same = (same.0 ∙ p.same.0, same.1 ∙ p.same.1);
      }
        where
          line : parts (plan_of b i w X) (from + k + 1) ≡ parts (plan_of b i w X) (from + k) ++ plan_at b i X (from + k)
          line = parts_next (plan_of b i w X) (from + k) ∙ ap (λ (l : List ℕ). parts (plan_of b i w X) (from + k) ++ l) (there (from + k) found)

    pub planned_all : w / 2 ^ from ≡ 0 → Adds (plan_lines b i w X) t u
    planned_all none = λ rest. p.so rest ∙ ap (λ (l : List ℕ). front t ++ (l ++ rest)) (sym (parts_skip (plan_of b i w X) from (L.states b) p.inside (λ x l u. missing x (λ one. no_bit_above from w none (x, l, one)))))
