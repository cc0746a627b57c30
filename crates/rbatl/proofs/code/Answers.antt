-- `code` hands over a small value, or minus the number of the refusal.
use mathlib.Core.Path.{◌∙◌, sym, ap, subst}
use Prim.Native.Nat.{ℕ, ◌<◌}
use lib.IntN.{pos, neg_ℤ}
use mir.Syntax.{w32}
use mir.Val.{SFits}
use mir.Facts.{to_z-of_z}
use Rattle.rbatl.specs.Answer.{Small, answer_code}
use Rattle.rbatl.proofs.Values.{small, minus, small_minus}
use Rattle.rbatl.proofs.code.Goals as goal
use Rattle.rbatl.proofs.code.Lts as lts
use Rattle.rbatl.proofs.code.Reads as reads
use Rattle.rbatl.proofs.code.Tie as tie

abbrev At-After-number : Type 0
At-After-number = lts.After-number tie.the-claims reads.Pre reads.Post

pub overflow_cast-result : goal.overflow_cast-result
overflow_cast-result c = small (subst Small c.in-Ok.is c.requires)

below : (c : At-After-number) → c.number.result < 256
below c = c.number.type_inv

pub overflow_sub-result : goal.overflow_sub-result
overflow_sub-result c = subst (SFits w32) (sym (minus c.number.result (below c))) (small_minus c.number.result (below c))

pub returns-in-Ok : goal.returns-in-Ok
returns-in-Ok c = to_z-of_z (small (subst Small c.in-Ok.is c.requires)) ∙ sym (ap answer_code c.in-Ok.is)

pub returns-in-Err : goal.returns-in-Err
returns-in-Err c = to_z-of_z (overflow_sub-result c) ∙ minus c.number.result (below c) ∙ ap (λ (n : ℕ). neg_ℤ (pos n)) c.number.ensures ∙ sym (ap answer_code c.in-Err.is)
