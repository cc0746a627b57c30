-- Steps of writing (specs' Past): a loop, a bound, a cost, parts that each tell a number.
-- Assumes nothing.
use mathlib.Core.List.{List, [], ◌∷◌, ◌++◌}
use mathlib.Core.Path.{◌≡◌, sym, ap, ◌∙◌}
use Prim.Native.Nat.{ℕ, ◌+◌, ◌-◌, ◌≤◌, ◌<◌}
use native.Mathlib.Nat.{sub-zero}
use native.Mathlib.Numerals.{add-one}
use native.Mathlib.Omega.{arith}
use lib.ListN.{set}
use borrow.Author.Tests.{lt-ltb, le-ltb, ne_eqb}
use Rattle.block.specs.Layout.{Block, byte_values, charge_byte, unlimited}
use Rattle.text.specs.declared.output.Output.{Output}
use Rattle.text.specs.declared.sizes.Edition.TheVariants.{Second}
use Rattle.text.specs.Numeral.{comma, minus, decimal}
use Rattle.text.specs.Format.{Format, write}
use Rattle.text.specs.Inner.Adding.{front}
use Rattle.text.specs.Inner.Fields.{collected}
use Rattle.text.specs.Job.{bound, last_number, charge, cost_field, cost_spelling, collect}
use Rattle.writer.specs.Inner.Writing.{Past, PastWith}
use Rattle.text.proofs.Spellings.{bound_spelled}
use Rattle.text.proofs.Costs.{number_spelled, charge_spelled}
use Rattle.text.proofs.Collecting.{collect_turn, collect_done}
use Rattle.text.proofs.Loops.{Loop, turn, finish}

-- the writer's loop has written j turns
pub record Looped (loop : ℕ → ℕ → Format → Format) (count : ℕ) (b : Block) (t u : Output) (j : ℕ) : Type 0 where
  pub so : (f : Format) → front u ++ write (loop (count - j) j f) b ≡ front t ++ write (loop count 0 f) b

pub looped_none : {loop : ℕ → ℕ → Format → Format} {count : ℕ} {b : Block} {t : Output} → Looped loop count b t t 0
looped_none = record { so = λ f. rw sub-zero }

module _ {loop body : ℕ → ℕ → Format → Format} {count j : ℕ} {b : Block} {t u : Output} (l : Loop loop body) (r : Looped loop count b t u j) where
  pub looped_more : {v : Output} → j < count → Past b (body (count - (j + 1)) j) u v → Looped loop count b t v (j + 1)
  looped_more {v} h p = record {
    so = λ f.
        p (loop (count - (j + 1)) (j + 1) f)
        ∙ ap (λ (g : Format). front u ++ write g b) (sym (turn l count j f h))
        ∙ r.so f;
  }

  pub looped_all : count ≤ j → Past b (loop count 0) t u
  looped_all h f = ap (λ (g : Format). front u ++ write g b) (sym (finish l count j f h)) ∙ r.so f

-- a bound that is not unlimited is written as a number
pub bound_number : (v : ℕ) → v < 256 → (v ≡ unlimited → ⊥) → bound.spell (bound.chosen v) ≡ decimal v ++ comma ∷ []
bound_number v h n = rw (ne_eqb v 255 n) (bound_spelled v h)

-- a cost is written as a number, and a charge as one after a minus
pub cost_number : (v : ℕ) → v < charge_byte → cost_field ((cost_spelling Second 0 0 0).chosen v) ≡ decimal v
cost_number v h = rw (lt-ltb v charge_byte h) (number_spelled v (omega arith))

pub cost_charge : (v : ℕ) → charge_byte ≤ v → v < byte_values → cost_field ((cost_spelling Second 0 0 0).chosen v) ≡ minus ∷ decimal (byte_values - v)
cost_charge v h l =
    let o = last_number + (byte_values - v) in
    let units : charge o ≡ byte_values - v = omega arith in
    rw (le-ltb v charge_byte h) (charge_spelled o (omega arith) ∙ ap (λ (n : ℕ). minus ∷ decimal n) units)

-- parts that each tell a number have been written, j of them; what follows all of them depends on their list
pub record Collected (part : ℕ → ℕ → (ℕ → Format) → Format) (number : ℕ → ℕ) (none : List ℕ) (count : ℕ) (b : Block) (t u : Output) (j : ℕ) : Type 0 where
  pub so : (f : List ℕ → Format) → front u ++ write (collect part (count - j) j (collected number none j) f) b ≡ front t ++ write (collect part count 0 none f) b

pub collected_none : {part : ℕ → ℕ → (ℕ → Format) → Format} {number : ℕ → ℕ} {none : List ℕ} {count : ℕ} {b : Block} {t : Output} → Collected part number none count b t t 0
collected_none = record { so = λ f. rw sub-zero }

module _ {part : ℕ → ℕ → (ℕ → Format) → Format} {number : ℕ → ℕ} {none : List ℕ} {count j : ℕ} {b : Block} {t u : Output} (r : Collected part number none count b t u j) where
  pub collected_more : {v : Output} → j < count → PastWith b (part (count - (j + 1)) j) (number j) u v → Collected part number none count b t v (j + 1)
  collected_more {v} h p = record {
    so = λ f.
        ap (λ (n : ℕ). front v ++ write (collect part (count - (j + 1)) (j + 1) (collected number none n) f) b) (add-one j)
        ∙ p (λ w. collect part (count - (j + 1)) (j + 1) (set (collected number none j) j w) f)
        ∙ ap (λ (g : Format). front u ++ write g b) (sym (collect_turn part count j (collected number none j) f h))
        ∙ r.so f;
  }

  pub collected_all : count ≡ j → PastWith b (collect part count 0 none) (collected number none count) t u
  collected_all e f =
      ap (λ (n : ℕ). front u ++ write (f (collected number none n)) b) e
      ∙ ap (λ (g : Format). front u ++ write g b) (sym (collect_done part count j (collected number none j) f (omega arith)))
      ∙ r.so f
