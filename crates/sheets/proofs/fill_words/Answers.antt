-- `fill_words` stores one word after another.
use mathlib.Core.Path.{refl, ◌∙◌}
use native.Mathlib.Omega.{arith}
use Rattle.turns.proofs.Bytes.{stored_more}
use Rattle.sheets.specs.Inner.Sheets.{ToldAt}
use Rattle.sheets.proofs.Sheets.{word_small}
use Rattle.sheets.proofs.fill_words.Goals as goal

pub loop-k-init : goal.loop-k-init
loop-k-init c = (omega arith, (λ k l. absurd (omega arith)), refl)

pub answer_at-answer-requires : goal.answer_at-answer-requires
answer_at-answer-requires c = record { made_ready = c.requires.made_ready; k_bound = omega (arith, c.loop-k-test.true) }

pub set_rank-requires : goal.set_rank-requires
set_rank-requires c = (omega (arith, c.loop-k-test.true, c.loop-k.invariant.2, c.requires.words_len), omega (arith, c.word.ensures, word_small c.answer_at-answer.ensures))

pub overflow_step-k : goal.overflow_step-k
overflow_step-k c = omega (arith, c.loop-k-test.true)

pub loop-k-smaller : goal.loop-k-smaller
loop-k-smaller c = omega (arith, c.loop-k-test.true)

pub loop-k-preserved : goal.loop-k-preserved
loop-k-preserved c = (omega (arith, c.loop-k-test.true), stored_more (ToldAt c.args.block.now c.args.i c.args.list.now) c.set_rank.ensures (c.answer_at-answer.result, c.answer_at-answer.ensures, c.word.ensures) c.loop-k.invariant.1, c.set_rank.ensures.kept ∙ c.loop-k.invariant.2)

pub shape_of-words : goal.shape_of-words
shape_of-words c = c.loop-k.invariant.2

pub returns : goal.returns
returns c = λ k l. c.loop-k.invariant.1 k (omega (arith, c.loop-k-test.false, c.loop-k.invariant.0, l))
