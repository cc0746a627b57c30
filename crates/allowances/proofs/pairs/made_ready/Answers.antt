-- `made_ready` puts the largest pair into the copy and, where nothing charges there, solves the row with it.
use mathlib.Core.Bool.{Bool, true}
use mathlib.Core.Path.{◌≡◌, refl, ◌∙◌}
use Prim.Native.Nat.{ℕ, ◌-◌}
use native.Mathlib.Omega.{arith}
use Rattle.block.specs.Layout as L
use Rattle.block.proofs.Decide as D
use Rattle.allowances.specs.Allowances.{Shows}
use Rattle.allowances.specs.Inner.Asked.{Asking}
use Rattle.allowances.specs.Inner.Pairs.{Spans}
use Rattle.allowances.specs.declared.pairs.Asked.{Asked}
use Rattle.allowances.proofs.Putting.{put_valid, put_row}
use Rattle.allowances.proofs.pairs.made_ready.Goals as goal
use Rattle.allowances.proofs.pairs.made_ready.Lts as lts
use Rattle.allowances.proofs.pairs.made_ready.Reads as reads
use Rattle.allowances.proofs.pairs.made_ready.Tie as tie

abbrev At-Start : Type 0
At-Start = lts.Start tie.the-claims reads.Pre reads.Post tie.handed_clauses

-- what is asked for
abbrev made : At-Start → Bool → Asked
made c once = record { row = c.args.i; state = c.args.s; left = c.args.lower.left; right = c.args.lower.right; once = once }

asking : (c : At-Start) (once : Bool) → Asking c.args.block.now (made c once)
asking c once = record { valid = c.requires.valid; inside = c.requires.i_bound.0; strategic = c.requires.i_bound.1; state = c.requires.i_bound.2; lower = c.requires.i_bound.3 }

-- the largest of the numbers of a resource
shows_last : {b : L.Block} {i j first end : ℕ} → Spans b i j first end → Shows b i j (end - 1)
shows_last spans = (spans.each _).1 (omega (arith, spans.some), omega (arith, spans.some))

pub tried-xs-requires : goal.tried-xs-requires
tried-xs-requires c = record { valid = c.requires.valid; i_bound = (c.requires.i_bound.0, omega arith) }

pub tried-ys-requires : goal.tried-ys-requires
tried-ys-requires c = record { valid = c.requires.valid; i_bound = (c.requires.i_bound.0, omega arith) }

pub overflow_sub-xs : goal.overflow_sub-xs
overflow_sub-xs c = omega (arith, c.tried-xs.ensures.some)

pub overflow_sub-ys : goal.overflow_sub-ys
overflow_sub-ys c = omega (arith, c.tried-ys.ensures.some)

pub put_copy-requires : goal.put_copy-requires
put_copy-requires c = record { valid = c.requires.valid; i_bound = (c.requires.i_bound.0, omega (arith, c.tried-xs.ensures.some, c.tried-xs.ensures.bytes), omega (arith, c.tried-ys.ensures.some, c.tried-ys.ensures.bytes), c.requires.copy_len.0) }

pub any-once-requires : goal.any-once-requires
any-once-requires c = let valid = put_valid (asking c.before.before.before.before.before.before.before.before.before.before.before.before.before true) (shows_last c.tried-xs.ensures) (shows_last c.tried-ys.ensures) c.put_copy.ensures.0 in
    (valid.sized, valid.counted)

pub rank_row-requires : goal.rank_row-requires
rank_row-requires c = let valid = put_valid (asking c.before.before.before.before.before.before.before.before.before.before.before.before.before.before.before.before.before true) (shows_last c.tried-xs.ensures) (shows_last c.tried-ys.ensures) c.put_copy.ensures.0 in
    let row = put_row (asking c.before.before.before.before.before.before.before.before.before.before.before.before.before.before.before.before.before true) (shows_last c.tried-xs.ensures) (shows_last c.tried-ys.ensures) c.put_copy.ensures.0 in
    record { valid = valid; i_bound = (row.0, row.1, c.requires.copy_len.1, c.requires.copy_len.2) }

pub returns-then-once : goal.returns-then-once
returns-then-once c = (
  asking c.before.before.before.before.before.before.before.before.before.before.before.before.before.before.before.before.before.before.before.before.before.before _,
  refl,
  refl,
  (
    c.put_copy.ensures.1,
    c.rank_row.auto.ways ∙ c.requires.copy_len.1,
    c.rank_row.ensures.ranks_len_unchanged ∙ c.requires.copy_len.2,
    λ _. record {
      x = c.tried-xs.result.end - 1;
      y = c.tried-ys.result.end - 1;
      shows_x = shows_last c.tried-xs.ensures;
      shows_y = shows_last c.tried-ys.ensures;
      largest_x = λ n shows. omega (arith, (c.tried-xs.ensures.each n).0 shows);
      largest_y = λ n shows. omega (arith, (c.tried-ys.ensures.each n).0 shows);
      put = c.put_copy.ensures.0;
      uncharged = D.falsity c.any-once.ensures c.if-once.true;
      ranks_of = c.rank_row.ensures.row_ranked.ranks_of;
    },
  ),
)

pub returns-else-once : goal.returns-else-once
returns-else-once c = (asking c.before.before.before.before.before.before.before.before.before.before.before.before.before.before.before _, refl, refl, (c.put_copy.ensures.1, c.requires.copy_len.1, c.requires.copy_len.2, λ e. let z : ◌≡◌ {A = ℕ} 0 1 = cc in absurd (omega arith)))
