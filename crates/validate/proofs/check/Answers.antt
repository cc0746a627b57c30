-- `check` gives the verdict: the conditions are tried in order, each where those before it do not hold.
use mathlib.Core.Path.{refl}
use borrow.Author.Rules.{rules}
use lib.ListN.{drop}
use Rattle.block.specs.Refusal.{Answers, NoValue}
use Rattle.block.specs.Layout.{Block}
use Rattle.block.specs.Check.{block_rules, Verdict}
use Rattle.block.specs.Inner.Valid.{Sized, Counted}
use Rattle.block.specs.Refusal.{Answer}
use Rattle.block.proofs.Decide as D
use Rattle.block.proofs.Passing.{sized, counted}
use Rattle.block.proofs.Refusals.{turned_down, past, answered}
use Rattle.validate.proofs.check.Goals as goal
use Rattle.validate.proofs.check.Lts as lts
use Rattle.validate.proofs.check.Reads as reads
use Rattle.validate.proofs.check.Tie as tie

abbrev At-Else-bad : Type 0
At-Else-bad = lts.Else2 tie.the-claims reads.Pre reads.Post

abbrev At-Else-bad-2 : Type 0
At-Else-bad-2 = lts.Else3 tie.the-claims reads.Pre reads.Post

abbrev At-Else-bad-3 : Type 0
At-Else-bad-3 = lts.Else4 tie.the-claims reads.Pre reads.Post

abbrev At-Else-bad-4 : Type 0
At-Else-bad-4 = lts.Else5 tie.the-claims reads.Pre reads.Post

abbrev At-Else-bad-5 : Type 0
At-Else-bad-5 = lts.Else6 tie.the-claims reads.Pre reads.Post

abbrev At-Else-block-ne-BLOCK_BYTES : Type 0
At-Else-block-ne-BLOCK_BYTES = lts.Else1 tie.the-claims reads.Pre reads.Post

-- the block, where its length is right
abbrev bytes : At-Else-block-ne-BLOCK_BYTES → Block
bytes c = c.args.block.now

-- past each test, the verdict is what the later rules give
past_length : (c : At-Else-block-ne-BLOCK_BYTES) {a : Answer} → Answers (drop 1 (block_rules (bytes c))) NoValue a → Verdict (bytes c) a
past_length c f = past (λ h. h c.if-block-ne-BLOCK_BYTES.false) f

past_sizes : (c : At-Else-bad) {a : Answer} → Answers (drop 2 (block_rules (bytes c.before.before))) NoValue a → Verdict (bytes c.before.before) a
past_sizes c f = past_length c.before.before (past (D.falsity c.bad.ensures c.if-bad.false) f)

past_states : (c : At-Else-bad-2) {a : Answer} → Answers (drop 3 (block_rules (bytes c.before.before.before.before))) NoValue a → Verdict (bytes c.before.before.before.before) a
past_states c f = past_sizes c.before.before (past (D.falsity c.bad-2.ensures c.if-bad-2.false) f)

past_charges : (c : At-Else-bad-3) {a : Answer} → Answers (drop 4 (block_rules (bytes c.before.before.before.before.before.before))) NoValue a → Verdict (bytes c.before.before.before.before.before.before) a
past_charges c f = past_states c.before.before (past (D.falsity c.bad-3.ensures c.if-bad-3.false) f)

past_nexts : (c : At-Else-bad-4) {a : Answer} → Answers (drop 5 (block_rules (bytes c.before.before.before.before.before.before.before.before))) NoValue a → Verdict (bytes c.before.before.before.before.before.before.before.before) a
past_nexts c f = past_charges c.before.before (past (D.falsity c.bad-4.ensures c.if-bad-4.false) f)

past_rows : (c : At-Else-bad-5) {a : Answer} → Answers (drop 6 (block_rules (bytes c.before.before.before.before.before.before.before.before.before.before))) NoValue a → Verdict (bytes c.before.before.before.before.before.before.before.before.before.before) a
past_rows c f = past_nexts c.before.before (past (D.falsity c.bad-5.ensures c.if-bad-5.false) f)

is_sized : (c : At-Else-bad) → Sized (bytes c.before.before)
is_sized c = sized c.if-block-ne-BLOCK_BYTES.false (D.falsity c.bad.ensures c.if-bad.false)

is_counted : (c : At-Else-bad-2) → Sized (bytes c.before.before.before.before) × Counted (bytes c.before.before.before.before)
is_counted c = (is_sized c.before.before, counted (bytes c.before.before.before.before) (D.falsity c.bad-2.ensures c.if-bad-2.false))

pub returns-then-block-ne-BLOCK_BYTES : goal.returns-then-block-ne-BLOCK_BYTES
returns-then-block-ne-BLOCK_BYTES c = turned_down c.if-block-ne-BLOCK_BYTES.true

pub returns-then-bad : goal.returns-then-bad
returns-then-bad c = past_length c.before.before.before (turned_down (D.truth c.bad.ensures c.if-bad.true))

pub bad-requires-2 : goal.bad-requires-2
bad-requires-2 c = is_sized c.before

pub returns-then-bad-2 : goal.returns-then-bad-2
returns-then-bad-2 c = past_sizes c.before.before.before (turned_down (D.truth c.bad-2.ensures c.if-bad-2.true))

pub bad-requires-3 : goal.bad-requires-3
bad-requires-3 c = let known = is_counted c.before in search rules

pub returns-then-bad-3 : goal.returns-then-bad-3
returns-then-bad-3 c = past_states c.before.before.before (turned_down (D.truth c.bad-3.ensures c.if-bad-3.true))

pub bad-requires-4 : goal.bad-requires-4
bad-requires-4 c = let known = is_counted c.before.before.before in search rules

pub returns-then-bad-4 : goal.returns-then-bad-4
returns-then-bad-4 c = past_charges c.before.before.before (turned_down (D.truth c.bad-4.ensures c.if-bad-4.true))

pub bad-requires-5 : goal.bad-requires-5
bad-requires-5 c = let known = is_counted c.before.before.before.before.before in search rules

pub returns-then-bad-5 : goal.returns-then-bad-5
returns-then-bad-5 c = past_nexts c.before.before.before (turned_down (D.truth c.bad-5.ensures c.if-bad-5.true))

pub bad-requires-6 : goal.bad-requires-6
bad-requires-6 c = let known = is_counted c.before.before.before.before.before.before.before in search rules

pub returns-then-bad-6 : goal.returns-then-bad-6
returns-then-bad-6 c = past_rows c.before.before.before (turned_down (D.truth c.bad-6.ensures c.if-bad-6.true))

pub returns : goal.returns
returns c = past_rows c.before.before.before (past (D.falsity c.bad-6.ensures c.if-bad-6.false) (answered refl))
