-- `rbatl_write` hands over the length of the text, or the refusal.
use Rattle.rbatl.proofs.Values.{small_answer}
use Rattle.rbatl.proofs.rbatl_write.Goals as goal

pub code-requires : goal.code-requires
code-requires c = small_answer c.write.ensures.answer (λ n h. h.fits)
