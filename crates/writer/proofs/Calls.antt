-- The promises of the write call (specs' WriteCall), from what its parts ensure.
-- Assumes nothing.
use mathlib.Core.List.{List, [], ◌++◌}
use mathlib.Core.Path.{◌≡◌, refl, sym, ap, ◌∙◌}
use Prim.Native.Nat.{ℕ, ◌-◌, ◌≤◌, ◌<◌}
use native.Mathlib.Omega.{arith}
use lib.ListN.{length, take, replicate}
use lib.Seq.{length-take-le}
use Rattle.block.specs.Layout.{Block, byte_values, byte_at}
use Rattle.block.specs.Check.{Verdict}
use Rattle.block.specs.declared.refusal.Refusal.{Refusal}
use Rattle.block.specs.declared.refusal.Refusal.TheVariants.{Length}
use Rattle.std.specs.Prelude.{Ok, Err}
use Rattle.block.proofs.Passing.{passing}
use Rattle.block.proofs.Refusals.{turned_down, past, answered, refused, passed}
use Rattle.text.specs.Text.{text_bytes, text_of}
use Rattle.text.proofs.Accepts.{round_trip}
use Rattle.writer.specs.Call.{WriteCall}

module _ {b : Block} (t : List ℕ) where
  pub another_length : (length t ≡ text_bytes → ⊥) → WriteCall b t t (Err Length)
  another_length h = record { answer = turned_down h; kept = refl }

  pub not_passing : {r : Refusal} → length t ≡ text_bytes → Verdict b (Err r) → WriteCall b t t (Err r)
  not_passing l v = record { answer = past (λ h. h l) (refused [] v); kept = refl }

  pub text_and_zeros : {m n : ℕ} {u : List ℕ} (w : List ℕ) → length t ≡ text_bytes → ((p : ℕ) → byte_at b p < byte_values) → Verdict b (Ok m) → length w ≡ text_bytes → take n w ≡ text_of b → n ≤ text_bytes → u ≡ take n w ++ replicate (length w - n) 0 → WriteCall b t u (Ok n)
  text_and_zeros {n = n} w l bytes v k e h z = record {
    answer = past (λ h. h l) (passed v (answered record {
      length_is = sym (length-take-le n w (omega arith)) ∙ ap length e;
      fits = h;
      bytes = z ∙ (rw (e, k) refl);
      same_block = round_trip b (passing v) bytes;
    }));
    kept = tt;
  }
