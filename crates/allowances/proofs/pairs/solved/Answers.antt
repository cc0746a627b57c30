-- `solved` puts the pair into the copy, solves the row there and looks at the state's rank at full stock.
use mathlib.Core.Path.{◌∙◌, ap, subst₂}
use Prim.Native.Nat.{ℕ, ◌+◌, ◌*◌, ◌<◌}
use lib.ListN.{length}
use native.Mathlib.Omega.{arith}
use Rattle.block.specs.Inner.Tests.{Decides}
use Rattle.block.proofs.Decide as D
use Rattle.game.specs.Position.{full}
use Rattle.game.specs.Model.{arena_of}
use Rattle.game.proofs.Blocks.Passing.{number_few}
use Rattle.game.proofs.Bridge.Truth.{full_fits}
use Rattle.turns.specs.Buffers.{rank_in}
use Rattle.rankings.specs.Kinds.{ClaimsBy}
use Rattle.allowances.proofs.Pairing.{shows_byte}
use Rattle.allowances.proofs.Putting.{put_valid, put_row, put_state, enough_told}
use Rattle.allowances.proofs.pairs.solved.Goals as goal
use Rattle.allowances.proofs.pairs.solved.Lts as lts
use Rattle.allowances.proofs.pairs.solved.Reads as reads
use Rattle.allowances.proofs.pairs.solved.Tie as tie

abbrev At-After-full-p : Type 0
At-After-full-p = lts.After-full tie.the-claims reads.Pre reads.Post tie.handed_clauses

pub put_copy-requires : goal.put_copy-requires
put_copy-requires c = record { valid = c.requires.asking.valid; i_bound = (c.requires.asking.inside, shows_byte c.requires.shows.0, shows_byte c.requires.shows.1, c.requires.copy_len.0) }

pub rank_row-requires : goal.rank_row-requires
rank_row-requires c = let row = put_row c.requires.asking c.requires.shows.0 c.requires.shows.1 c.put_copy.ensures.0 in
    record { valid = put_valid c.requires.asking c.requires.shows.0 c.requires.shows.1 c.put_copy.ensures.0; i_bound = (row.0, row.1, c.requires.copy_len.1, c.requires.copy_len.2) }

pub full-p-requires : goal.full-p-requires
full-p-requires c = let row = put_row c.requires.asking c.requires.shows.0 c.requires.shows.1 c.put_copy.ensures.0 in
    record { valid = put_valid c.requires.asking c.requires.shows.0 c.requires.shows.1 c.put_copy.ensures.0; i_bound = (row.0, row.1, put_state c.requires.asking c.requires.shows.0 c.requires.shows.1 c.put_copy.ensures.0) }

pub goal_of-requires : goal.goal_of-requires
goal_of-requires c = let valid = put_valid c.requires.asking c.requires.shows.0 c.requires.shows.1 c.put_copy.ensures.0 in
    let row = put_row c.requires.asking c.requires.shows.0 c.requires.shows.1 c.put_copy.ensures.0 in
    record { block_len = valid.sized.bytes; i_lt_max_rows = omega (arith, row.0, valid.sized.rows_fit); strategic = row.1 }

-- the ranks are long enough
ranks_long : (c : At-After-full-p) → 2 * c.full-p.result + 1 < length c.rank_row.new.ranks
ranks_long c =
    let valid = put_valid c.requires.asking c.requires.shows.0 c.requires.shows.1 c.put_copy.ensures.0 in
    let row = put_row c.requires.asking c.requires.shows.0 c.requires.shows.1 c.put_copy.ensures.0 in
    let G = arena_of c.put_copy.new.copy c.args.ask.row in
    let fits = full_fits G c.args.ask.state (put_state c.requires.asking c.requires.shows.0 c.requires.shows.1 c.put_copy.ensures.0) in
    omega (arith, c.full-p.ensures, number_few c.put_copy.new.copy valid c.args.ask.row row.0 row.1 (full G c.args.ask.state) fits, c.rank_row.ensures.ranks_len_unchanged, c.requires.copy_len.2)

pub rank_at-requires : goal.rank_at-requires
rank_at-requires c = ranks_long c.before.before

pub returns : goal.returns
returns c = let rank = c.rank_at.ensures.0 ∙ ap (rank_in c.rank_row.new.ranks) c.full-p.ensures in
    let told = enough_told c.requires.asking c.requires.shows.0 c.requires.shows.1 c.put_copy.ensures.0 c.rank_row.ensures.row_ranked.ranks_of in record { decides = D.same (subst₂ (λ (k n : ℕ). Decides (ClaimsBy k n) c.claims.result) c.goal_of.ensures rank c.claims.ensures) told.0 told.1; copy_len_2 = (c.put_copy.ensures.1, c.rank_row.auto.ways ∙ c.requires.copy_len.1, c.rank_row.ensures.ranks_len_unchanged ∙ c.requires.copy_len.2) }
