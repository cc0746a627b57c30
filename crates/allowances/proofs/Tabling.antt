-- One table for all pairs: where nothing charges, the row is true with a pair for its bounds exactly if the ranks of the largest pair claim the
-- position with these stocks. Assumes nothing.
use mathlib.Core.List.{List, [], ◌∷◌}
use mathlib.Core.Logic.{◌↔◌}
use mathlib.Core.Path.{◌≡◌, ◌∙◌, ap}
use Prim.Native.Nat.{ℕ, ◌≤◌, ◌<◌}
use native.Mathlib.Omega.{arith}
use Rattle.block.specs.Layout as L
use Rattle.block.specs.Layout.{Block}
use Rattle.block.specs.Inner.Valid.{Valid}
use Rattle.block.proofs.OneRow.{same_resources}
use Rattle.game.specs.Rbatl.{limit, unlimited}
use Rattle.game.specs.Position.{Position, position, places, IsPosition, number}
use Rattle.game.specs.Model.{bound_of, bounds_by, bounds_of, arena_of}
use Rattle.game.proofs.Bridge.Uncharged.{stock_bound, uncharged_serves}
use Rattle.game.proofs.Blocks.Passing.{valid_proper}
use Rattle.game.proofs.Blocks.Formulas.{with_wins}
use Rattle.game.proofs.Blocks.OneRow.{with_same}
use Rattle.game.proofs.Blocks.Reading.{if_unlimited, if_limited, bound_here, bound_unlimited, bound_limited}
use Rattle.game.proofs.Blocks.Uncharged.{uncharged}
use Rattle.turns.specs.Buffers.{rank_in}
use Rattle.rankings.specs.Kinds.{ClaimsBy}
use Rattle.solver.specs.Inner.Labels.{Prepared}
use Rattle.solver.proofs.Readiness.{claimed_wins, wins_claimed_by}
use Rattle.allowances.specs.Allowances.{Shows}
use Rattle.allowances.specs.Allowances as A
use Rattle.allowances.specs.Inner.Asked.{Asking, Tabled}
use Rattle.allowances.specs.Inner.Pairs.{pair, Enough, stock_of}
use Rattle.allowances.specs.declared.pairs.Asked.{Asked}
use Rattle.allowances.proofs.Pairing.{two}
use Rattle.allowances.proofs.Putting.{put_valid, put_row, put_state, put_lower}

module _ {b : Block} {a : Asked} (ask : Asking b a) {b' : Block} {ranks : List ℕ} (t : Tabled b a b' ranks) where
  abbrev i : ℕ
  i = a.row

  pub table_valid : Valid b'
  table_valid = put_valid ask t.shows_x t.shows_y t.put

  pub table_row : (i < L.rows b') × L.Strategic (L.kind b' i)
  table_row = put_row ask t.shows_x t.shows_y t.put

  same : L.resources b' ≡ L.resources b
  same = same_resources ask.valid ask.inside t.put.only

  -- a number below the bound m of resource j is a stock there, and stands for itself as a bound
  stocked : (j n m : ℕ) → j < L.resources b → Shows b i j n → Shows b i j m → n ≤ m → L.bound b' i j ≡ m → (stock_of n < places (bounds_of b' i j)) × (bound_of n ≡ stock_bound (bounds_of b' i j) (stock_of n))
  stocked j n m l (A.unlimited _ _ e) (A.unlimited _ _ e') less is =
      rw (bound_unlimited b' i j (omega (arith, same)) (is ∙ e'), if_unlimited n 0 n e) (omega arith, if_unlimited n unlimited (limit n) e)
  stocked j n m l (A.limited _ _ small) (A.limited _ _ small') less is =
      let other : n ≡ L.unlimited → ⊥ = λ u. omega arith in
      rw (bound_limited b' i j (omega (arith, same)) (λ u. omega arith) ∙ ap limit is, if_limited n 0 n other) (omega arith, if_limited n unlimited (limit n) other)
  stocked j n m l (A.limited _ lim _) (A.unlimited _ un _) less is = absurd (lim un)
  stocked j n m l (A.unlimited _ un _) (A.limited _ lim _) less is = absurd (lim un)
  stocked j n m l (A.limited _ _ _) (A.absent none _) less is = absurd (omega arith)
  stocked j n m l (A.unlimited _ _ _) (A.absent none _) less is = absurd (omega arith)
  stocked j n m l (A.absent none _) _ less is = absurd (omega arith)

  module _ (x y : ℕ) (shows_x : Shows b i 0 x) (shows_y : Shows b i 1 y) where
    -- the position whose stocks the pair is
    abbrev pub spot : Position
    spot = position a.state (stock_of x ∷ stock_of y ∷ [])

    each : (j : ℕ) → j < L.resources b → (spot.stock j < places (bounds_of b' i j)) × (bound_of (pair x y j) ≡ stock_bound (bounds_of b' i j) (spot.stock j))
    each j l =
        two (λ j. j < L.resources b → (spot.stock j < places (bounds_of b' i j)) × (bound_of (pair x y j) ≡ stock_bound (bounds_of b' i j) (spot.stock j)))
        (λ h. stocked 0 x t.x h shows_x t.shows_x (t.largest_x x shows_x) (t.put.bounds 0 h)) (λ h. stocked 1 y t.y h shows_y t.shows_y (t.largest_y y shows_y) (t.put.bounds 1 h)) j (omega (arith, ask.valid.sized.resources_fit)) l

    pub spot_fits : IsPosition (arena_of b' i) spot
    spot_fits = (put_state ask t.shows_x t.shows_y t.put, λ j l. (each j (omega (arith, same))).0)

    pub enough_tabled : ClaimsBy (L.kind b' i) (rank_in ranks (number (arena_of b' i) spot)) ↔ Enough b i a.state x y
    enough_tabled =
        let proper = valid_proper b' table_valid in
        let lower = put_lower ask t.shows_x t.shows_y t.put in
        let prepared : Prepared b' i a.left a.right ranks = record { left_set = lower.left_set; right_set = lower.right_set; ranks_of = t.ranks_of } in
        let serves = uncharged_serves (arena_of b' i) proper (uncharged b' table_valid t.uncharged) spot spot_fits (bounds_by b' (pair x y)) (λ j l. bound_here b' (pair x y) j l ∙ (each j (omega (arith, same))).1) in
        let wins = with_wins b' proper i (table_valid.row_fits i table_row.0) table_row.1 spot spot_fits (bounds_by b' (pair x y)) serves in
        let put = with_same ask.valid table_valid ask.inside t.put.only (pair x y) a.state ask.state in (
          (λ claim. put.1 (wins.1 (claimed_wins table_valid table_row.0 table_row.1 prepared spot spot_fits claim))),
          λ met. wins_claimed_by table_valid table_row.0 table_row.1 prepared spot spot_fits (wins.0 (put.0 met)),
        )
