-- `set_word` stores the bytes of a set.
use native.Mathlib.Omega.{arith}
use Rattle.std.proofs.Common.{rules}
use Rattle.std.proofs.lemmas.Grind.{common_steps}
use Rattle.turns.proofs.Bytes.{word_bytes, word_others}
use Rattle.turns.proofs.buffers.set_word.Goals as goal

pub returns : goal.returns
returns c = record {
  stored = grind (arith, common_steps, word_bytes);
  others = word_others c.args.sets.now _ c.args.i _ (omega arith) (search rules) (omega arith);
  kept = search rules;
}
