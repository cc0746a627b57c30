-- Flags, marked part by part; and the places from which a move leads to another, by the digits of packed stocks. Assumes nothing.
use mathlib.Core.List.{List}
use mathlib.Core.Logic.{◌⊎◌, ⊎_elim}
use mathlib.Core.Path.{refl, ◌∙◌}
use Prim.Native.Nat.{ℕ}
use Rattle.ways.specs.Back.{Marked}

pub marked_none : {Q : ℕ → Type 0} (l : List ℕ) → ((z : ℕ) → Q z → ⊥) → Marked Q l l
marked_none l none = record { each = λ z _ q. absurd (none z q); still = λ z e. e; flags = λ f. f; long = refl }

-- one part after another, and what follows from what was marked
pub marked_both : {Q R W : ℕ → Type 0} {l l' l'' : List ℕ} → ((z : ℕ) → W z → Q z ⊎ R z) → Marked Q l l' → Marked R l' l'' → Marked W l l''
marked_both {Q} {R} {W} {l} {l'} {l''} split a b = record {
  each = λ z small w. ⊎_elim (λ (q : Q z). b.still z (a.each z small q)) (λ (r : R z). b.each z small r) (split z w);
  still = λ z e. b.still z (a.still z e);
  flags = λ f. b.flags (a.flags f);
  long = b.long ∙ a.long;
}

pub marked_narrow : {Q R : ℕ → Type 0} {l l' : List ℕ} → ((z : ℕ) → R z → Q z) → Marked Q l l' → Marked R l l'
marked_narrow less m = record { each = λ z small r. m.each z small (less z r); still = m.still; flags = m.flags; long = m.long }
