-- Words as sets: what two have in common, what either has, and whether a move serves by that. Assumes nothing.
use mathlib.Core.Bool.{true, false}
use mathlib.Core.Logic.{◌↔◌}
use mathlib.Core.Path.{◌≡◌, refl, sym, ◌∙◌, ap, subst}
use Prim.Native.Nat.{ℕ, ◌+◌, ◌/◌, ◌%◌, ◌^◌, ◌<◌}
use native.Mathlib.Nat.{zero-div}
use native.Mathlib.Omega.{arith}
use lib.Arith.{bin_ind}
use lib.Bits.{bit_and, bit_or, and_step, and_shr, or_step, or_comm, or_shr, or_lt}
use lib.Pow.{shr-shr}
use Rattle.block.specs.Decide.{Bit}
use Rattle.block.proofs.Masks.{bit_above}
use Rattle.game.proofs.Numbers.Decide.{eq?}
use Rattle.boards.specs.Boards.{Fires}

-- the lowest digit
low_both : (a b : ℕ) → (bit_and a b % 2 ≡ 1) ↔ ((a % 2 ≡ 1) × (b % 2 ≡ 1))
low_both a b = let step = and_step a b in (λ e. (omega arith, omega arith), λ (e, e'). omega arith)

pub bit_both : (a b s : ℕ) → Bit (bit_and a b) s ↔ (Bit a s × Bit b s)
bit_both a b s =
    let same = ap (λ (n : ℕ). n % 2) (and_shr a b s) in
    let low = low_both (a / 2 ^ s) (b / 2 ^ s) in
    (λ e. low.0 (sym same ∙ e), λ e. same ∙ low.1 e)

-- a bit of either is one of both together
low_left : (a b : ℕ) → a % 2 ≡ 1 → bit_or a b % 2 ≡ 1
low_left a b e = let step = or_step a b in omega arith

pub bit_left : (a b s : ℕ) → Bit a s → Bit (bit_or a b) s
bit_left a b s e = ap (λ (n : ℕ). n % 2) (or_shr a b s) ∙ low_left (a / 2 ^ s) (b / 2 ^ s) e

pub bit_right : (a b s : ℕ) → Bit b s → Bit (bit_or a b) s
bit_right a b s e = subst (λ (w : ℕ). Bit w s) (or_comm b a) (bit_left b a s e)

-- w has the bits of the first n words
pub record Joined (at : ℕ → ℕ) (n w : ℕ) : Type 0 where
  pub each : (k q : ℕ) → k < n → Bit (at k) q → Bit w q
  pub short : w < 2 ^ 24

pub joined_none : (at : ℕ → ℕ) → Joined at 0 0
joined_none at = record { each = λ k q less. absurd (omega arith); short = omega arith }

pub joined_next : (at : ℕ → ℕ) {n w v : ℕ} → Joined at n w → v ≡ at n → v < 2 ^ 24 → Joined at (n + 1) (bit_or w v)
joined_next at {n} {w} {v} so_far is short = record { each = λ k q less bit. go k q less bit (eq? k n); short = or_lt 24 w v so_far.short short }
  where
    go : (k q : ℕ) → k < n + 1 → Bit (at k) q → Dec (k ≡ n) → Bit (bit_or w v) q
    go k q less bit (yes e) = bit_right w v q (subst (λ (u : ℕ). Bit u q) (ap at e ∙ sym is) bit)
    go k q less bit (no ne) = bit_left w v q (so_far.each k q (omega arith) bit)

-- a word other than 0 has a bit, and 0 has none
pub some_bit : (w : ℕ) → (w ≡ 0 → ⊥) → (s : ℕ) × Bit w s
some_bit w ne = let (s, _, bit) = bit_above 0 w (λ e. ne (omega arith)) in (s, bit)

pub no_bit : (s : ℕ) → Bit 0 s → ⊥
no_bit s bit = omega (arith, zero-div (2 ^ s), bit)

-- a word whose bits are all another's is what both have in common
pub all_both : (a b : ℕ) → ((s : ℕ) → Bit a s → Bit b s) → bit_and a b ≡ a
all_both = bin_ind (λ (n : ℕ). (b : ℕ) → ((s : ℕ) → Bit n s → Bit b s) → bit_and n b ≡ n) (λ b each. refl) step
  where
    step : (n : ℕ) → ((b : ℕ) → ((s : ℕ) → Bit (n / 2) s → Bit b s) → bit_and (n / 2) b ≡ n / 2) → (b : ℕ) → ((s : ℕ) → Bit n s → Bit b s) → bit_and n b ≡ n
    step n ih b each =
        let halves : bit_and (n / 2) (b / 2) ≡ n / 2 = ih (b / 2) (λ s bit. rw (shr-shr b 1 s) (each (1 + s) (rw (← shr-shr n 1 s) bit))) in
        let low : n % 2 ≡ 1 → b % 2 ≡ 1 = λ e. omega (arith, each 0 (omega arith)) in
        go halves (eq? (n % 2) 1) low
      where
        go : bit_and (n / 2) (b / 2) ≡ n / 2 → Dec (n % 2 ≡ 1) → (n % 2 ≡ 1 → b % 2 ≡ 1) → bit_and n b ≡ n
        go halves (yes e) low = omega (arith, and_step n b, halves, low e)
        go halves (no ne) low = omega (arith, and_step n b, halves)

-- whether a move serves, by what is in common
pub most_fires : (to won : ℕ) → (bit_and to won ≡ to) ↔ Fires true to won
most_fires to won = (λ e q bit. ((bit_both to won q).0 (subst (λ (w : ℕ). Bit w q) (sym e) bit)).1, all_both to won)

pub some_fires : (to won : ℕ) → (bit_and to won ≡ 0 → ⊥) ↔ Fires false to won
some_fires to won = (
  λ ne. let (q, bit) = some_bit (bit_and to won) ne in (q, ((bit_both to won q).0 bit).0, ((bit_both to won q).0 bit).1),
  λ (q, to-q, won-q) e. no_bit q (subst (λ (w : ℕ). Bit w q) e ((bit_both to won q).1 (to-q, won-q))),
)

pub fires? : (to won : ℕ) → Dec (Fires false to won)
fires? to won = go (eq? (bit_and to won) 0)
  where
    go : Dec (bit_and to won ≡ 0) → Dec (Fires false to won)
    go (yes e) = no (λ fires. (some_fires to won).1 fires e)
    go (no ne) = yes ((some_fires to won).0 ne)
