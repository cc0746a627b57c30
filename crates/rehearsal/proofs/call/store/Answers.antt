-- `store` writes the last position as a word, and then the two bytes before it.
use mathlib.Core.Bool.{Bool, true, false, cond}
use mathlib.Core.Path.{◌≡◌, refl, ◌∙◌, ap₂}
use Prim.Native.Nat.{ℕ, ◌+◌, ◌*◌, ◌≤◌}
use native.Mathlib.Omega.{arith}
use mir.Val.{bool_byte}
use lib.ListN.{get_or, length}
use Rattle.turns.proofs.Bytes.{with_pair, pair_stored, pair_other, pair_length}
use Rattle.rehearsal.proofs.call.store.Goals as goal

-- a flag as a byte
as_number : (b : Bool) → bool_byte b ≡ cond b 1 0
as_number true = refl
as_number false = refl

pub returns : goal.returns
returns c = let long : length c.set_rank.new.ranks ≡ 4 = c.set_rank.ensures.kept ∙ c.requires.0 in
    let (finished, moves) = pair_stored c.set_rank.new.ranks 0 (cond c.args.finished 1 0) c.args.moves (omega arith) in
    let other : (k : ℕ) → 2 ≤ k → get_or (with_pair c.set_rank.new.ranks 0 (cond c.args.finished 1 0) c.args.moves) k 0 ≡ get_or c.set_rank.new.ranks k 0 = λ k far. pair_other c.set_rank.new.ranks 0 (cond c.args.finished 1 0) c.args.moves k (λ e. omega arith) (λ e. omega arith) in
    rw (as_number c.args.finished) (moves, finished, ap₂ (λ (u v : ℕ). u + 256 * v) (other 2 (omega arith)) (other 3 (omega arith)) ∙ c.set_rank.ensures.stored, pair_length c.set_rank.new.ranks 0 (cond c.args.finished 1 0) c.args.moves ∙ long)
