-- `with_bit` adds the bit.
use mathlib.Core.Logic.{◌↔◌, ◌⊎◌, inl, inr, ⊎_elim}
use mathlib.Core.Path.{◌≡◌, sym, ◌∙◌, subst}
use Prim.Native.Nat.{ℕ, ◌*◌, ◌%◌, ◌^◌, ◌<◌}
use native.Mathlib.Omega.{arith}
use Rattle.std.specs.Int.{w64}
use Rattle.std.specs.Int.Bits.{bit_or}
use Rattle.std.proofs.lemmas.Nat.Bits.{bit_at_set_same, bit_at_set_other}
use Rattle.block.specs.Decide.{Bit}
use Rattle.turns.proofs.Bytes.{bits_short}
use Rattle.game.proofs.Numbers.Decide.{eq?}
use Rattle.turns.proofs.buffers.with_bit.Goals as goal

module _ (w s : ℕ) (within : s < 64) where
  abbrev more : ℕ
  more = bit_or w (1 * 2 ^ s % 18446744073709551616)

  bits : (x : ℕ) → Bit more x ↔ (Bit w x ⊎ (x ≡ s))
  bits x = go (eq? x s)
    where
      go : Dec (x ≡ s) → Bit more x ↔ (Bit w x ⊎ (x ≡ s))
      go (yes e) = (λ _. inr e, λ _. subst (Bit more) (sym e) (bit_at_set_same w64 w s within))
      go (no ne) = let same = bit_at_set_other w64 w s within x ne in
          (λ one. inl (sym same ∙ one), ⊎_elim (λ one. same ∙ one) (λ e. absurd (ne e)))

pub returns : goal.returns
returns c = let bits = bits c.args.w c.args.s (omega arith) in (bits_short bits, bits)
