-- `told` looks at the rank of the position whose stocks the pair is.
use mathlib.Core.List.{[], ◌∷◌}
use mathlib.Core.Path.{◌≡◌, sym, ◌∙◌, ap, ap₂, subst, subst₂}
use Prim.Native.Nat.{ℕ}
use native.Mathlib.Omega.{arith}
use Rattle.block.specs.Inner.Tests.{Decides}
use Rattle.block.proofs.Decide as D
use Rattle.game.specs.Position.{position, IsPosition, number}
use Rattle.game.specs.Model.{arena_of}
use Rattle.game.proofs.Blocks.Passing.{number_few}
use Rattle.turns.specs.Buffers.{rank_in}
use Rattle.rankings.specs.Kinds.{ClaimsBy}
use Rattle.allowances.proofs.Pairing.{shows_byte}
use Rattle.allowances.proofs.Tabling.{table_valid, table_row, spot, spot_fits, enough_tabled}
use Rattle.allowances.proofs.pairs.told.Goals as goal
use Rattle.allowances.proofs.pairs.told.Lts as lts
use Rattle.allowances.proofs.pairs.told.Reads as reads
use Rattle.allowances.proofs.pairs.told.Tie as tie

abbrev At-After-stocks-1 : Type 0
At-After-stocks-1 = lts.After-stocks tie.the-claims reads.Pre reads.Post tie.handed_clauses

pub stock-requires : goal.stock-requires
stock-requires c = shows_byte c.requires.shows.0

pub stock-requires-2 : goal.stock-requires-2
stock-requires-2 c = shows_byte c.requires.shows.1

-- the stocks are those of the pair
placed : (c : At-After-stocks-1) → position c.args.ask.state (c.stock.result ∷ c.stock-2.result ∷ []) ≡ spot c.requires.asking.0 c.requires.asking.1 c.args.x c.args.y c.requires.shows.0 c.requires.shows.1
placed c = ap₂ (λ (u v : ℕ). position c.args.ask.state (u ∷ v ∷ [])) c.stock.ensures c.stock-2.ensures

fits : (c : At-After-stocks-1) → IsPosition (arena_of c.args.copy.now c.args.ask.row) (position c.args.ask.state (c.stock.result ∷ c.stock-2.result ∷ []))
fits c = subst (IsPosition (arena_of c.args.copy.now c.args.ask.row)) (sym (placed c)) (spot_fits c.requires.asking.0 c.requires.asking.1 c.args.x c.args.y c.requires.shows.0 c.requires.shows.1)

pub number-p-requires : goal.number-p-requires
number-p-requires c = let valid = table_valid c.requires.asking.0 c.requires.asking.1 in
    let row = table_row c.requires.asking.0 c.requires.asking.1 in
    record { valid = valid; i_bound = (row.0, row.1, valid.sized.resources_fit.1); position = fits c.before }

pub goal_of-requires : goal.goal_of-requires
goal_of-requires c = let valid = table_valid c.requires.asking.0 c.requires.asking.1 in
    record { block_len = valid.sized.bytes; i_lt_max_rows = omega (arith, (table_row c.requires.asking.0 c.requires.asking.1).0, valid.sized.rows_fit); strategic = (table_row c.requires.asking.0 c.requires.asking.1).1 }

pub rank_at-requires : goal.rank_at-requires
rank_at-requires c = let row = table_row c.requires.asking.0 c.requires.asking.1 in
    omega (arith, c.number-p.ensures, number_few c.args.copy.now (table_valid c.requires.asking.0 c.requires.asking.1) c.args.ask.row row.0 row.1 _ (fits c.before.before.before), c.requires.asking.2)

pub returns : goal.returns
returns c = let G = arena_of c.args.copy.now c.args.ask.row in
    let rank = c.rank_at.ensures.0 ∙ ap (rank_in c.args.ranks.now) (c.number-p.ensures ∙ ap (number G) (placed c.before.before.before.before.before)) in
    let claimed = enough_tabled c.requires.asking.0 c.requires.asking.1 c.args.x c.args.y c.requires.shows.0 c.requires.shows.1 in
    D.same (subst₂ (λ (k n : ℕ). Decides (ClaimsBy k n) c.claims.result) c.goal_of.ensures rank c.claims.ensures) claimed.0 claimed.1
