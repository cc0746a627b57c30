-- A pair put for the bounds of a row: the block is still valid, its lower rows have the same sets, and the row is true in it exactly where the
-- pair is enough. Assumes nothing.
use mathlib.Core.List.{List}
use mathlib.Core.Logic.{◌↔◌, inr}
use mathlib.Core.Path.{◌≡◌, refl, ◌∙◌, subst}
use Prim.Native.Nat.{ℕ, ◌+◌, ◌≤◌, ◌<◌}
use native.Mathlib.Omega.{arith}
use lib.ListN.{set, length, length-set}
use lib.Seq.{get_or-set_same, get_or-set_other}
use borrow.Author.Count.{below_none, below_more}
use Rattle.block.specs.Layout as L
use Rattle.block.specs.Layout.{Block, Strategic, place_of}
use Rattle.block.specs.Inner.Valid.{Valid}
use Rattle.block.specs.Inner.OneRow.{OnlyFields, IsBound, SameAim}
use Rattle.block.specs.declared.layout.Place.TheVariants.{Field}
use Rattle.block.proofs.OneRow.{same_states, same_rows, own_aim, row_same, valid_same}
use Rattle.game.specs.Rbatl.{Bounds, limit, unlimited}
use Rattle.game.specs.Position.{number, full}
use Rattle.game.specs.Model.{bound_of, bounds_by, arena_of, RowTrue, RowTrueWith, RowSet}
use Rattle.game.proofs.Blocks.Passing.{valid_proper}
use Rattle.game.proofs.Blocks.Formulas.{row_wins}
use Rattle.game.proofs.Blocks.More.{with_more}
use Rattle.game.proofs.Blocks.OneRow.{lower_same, bounds_same, put_in}
use Rattle.game.proofs.Blocks.Reading.{bound_here, if_unlimited, if_limited}
use Rattle.game.proofs.Bridge.More.{AtMost}
use Rattle.game.proofs.Bridge.Truth.{full_fits}
use Rattle.turns.specs.Buffers.{rank_in}
use Rattle.rankings.specs.Kinds.{ClaimsBy}
use Rattle.choice.specs.Tables.{RanksOf}
use Rattle.solver.specs.Inner.Labels.{LowerTold, Prepared}
use Rattle.solver.proofs.Readiness.{claimed_wins, wins_claimed_by}
use Rattle.allowances.specs.Allowances.{Shows}
use Rattle.allowances.specs.Allowances as A
use Rattle.allowances.specs.Inner.Asked.{Asking, Put}
use Rattle.allowances.specs.Inner.Pairs.{pair, Enough}
use Rattle.allowances.specs.declared.pairs.Asked.{Asked}
use Rattle.allowances.proofs.Pairing.{two}

abbrev bound_place : ℕ → ℕ → ℕ
bound_place i j = place_of (Field i (L.bound_byte + j))

-- b' is b with the numbers of a pair for the first n bounds of row i
pub record PutTo (i : ℕ) (f : ℕ → ℕ) (b b' : Block) (n : ℕ) : Type 0 where
  pub only : OnlyFields i (IsBound b) b b'
  pub bounds : (j : ℕ) → j < n → L.bound b' i j ≡ f j

pub put_none : (i : ℕ) (f : ℕ → ℕ) (b : Block) → L.resources b ≤ L.max_resources → PutTo i f b b 0
put_none i f b few = record { only = record { long = refl; fields = λ g c. omega (arith, c); same = λ p h. refl }; bounds = below_none _ }

pub put_next : {i : ℕ} {f : ℕ → ℕ} {b b' : Block} {n : ℕ} → PutTo i f b b' n → n < L.resources b → bound_place i n < length b' → PutTo i f b (set b' (bound_place i n) (f n)) (n + 1)
put_next {i} {f} {b} {b'} {n} before l inside = record {
  only = record {
    long = length-set b' (bound_place i n) (f n) ∙ before.only.long;
    fields = before.only.fields;
    same = λ p h. get_or-set_other b' (bound_place i n) p (f n) 0 (λ e. h (L.bound_byte + n) (omega arith, omega arith) e) ∙ before.only.same p h;
  };
  bounds = below_more _ n (λ j lj. get_or-set_other b' (bound_place i n) (bound_place i j) (f n) 0 (λ e. omega arith) ∙ before.bounds j lj) (get_or-set_same b' (bound_place i n) (f n) 0 inside);
}

-- what may be shown is a bound that passes
shown_fits : {b : Block} {i j n : ℕ} → Shows b i j n → L.max_units < n → n ≡ L.unlimited
shown_fits (A.limited _ _ small) high = absurd (omega arith)
shown_fits (A.unlimited _ _ e) high = e
shown_fits (A.absent _ e) high = absurd (omega arith)

-- a larger number that may be shown is a larger bound
shown_more : {b : Block} {i j m n : ℕ} → j < L.resources b → Shows b i j m → Shows b i j n → m ≤ n → AtMost (bound_of m) (bound_of n)
shown_more {m = m} {n = n} l (A.limited _ _ small) (A.limited _ _ small') less =
    rw (if_limited m unlimited (limit m) (λ e. omega arith), if_limited n unlimited (limit n) (λ e. omega arith)) less
shown_more l (A.limited _ lim _) (A.unlimited _ un _) less = absurd (lim un)
shown_more l (A.unlimited _ un _) (A.limited _ lim _) less = absurd (lim un)
shown_more {m = m} {n = n} l (A.unlimited _ _ e) (A.unlimited _ _ e') less = rw (if_unlimited m unlimited (limit m) e, if_unlimited n unlimited (limit n) e') tt
shown_more l (A.limited _ _ _) (A.absent none _) less = absurd (omega arith)
shown_more l (A.unlimited _ _ _) (A.absent none _) less = absurd (omega arith)
shown_more l (A.absent none _) (A.limited _ _ _) less = absurd (omega arith)
shown_more l (A.absent none _) (A.unlimited _ _ _) less = absurd (omega arith)
shown_more l (A.absent none _) (A.absent _ _) less = absurd (omega arith)

module _ {b : Block} {a : Asked} (ask : Asking b a) where
  abbrev i : ℕ
  i = a.row

  -- more is never worse
  pub enough_more : (x v w : ℕ) → Shows b i 0 x → Shows b i 1 v → Shows b i 1 w → v ≤ w → Enough b i a.state x v → Enough b i a.state x w
  enough_more x v w shows_x shows-v shows-w less =
      with_more b (valid_proper b ask.valid) i (ask.valid.row_fits i ask.inside) ask.strategic (bounds_by b (pair x v)) (bounds_by b (pair x w))
      (λ r l. rw (bound_here b (pair x v) r l, bound_here b (pair x w) r l)
      (two (λ j. j < L.resources b → AtMost (bound_of (pair x v j)) (bound_of (pair x w j))) (λ h. shown_more h shows_x shows_x (omega arith)) (λ h. shown_more h shows-v shows-w less) r (omega (arith, ask.valid.sized.resources_fit)) l))
      a.state

  module _ {x y : ℕ} {b' : Block} (shows_x : Shows b i 0 x) (shows_y : Shows b i 1 y) (put : Put i x y b b') where
    aim : SameAim i b b'
    aim = own_aim ask.valid ask.inside put.only

    pub put_valid : Valid b'
    put_valid =
        valid_same ask.valid ask.inside put.only aim.kind
        (row_same ask.valid ask.inside put.only i aim (λ _ j l high. fits j l high) (ask.valid.row_fits i ask.inside))
        (λ f bound. inr (inr (ask.strategic, (omega (arith, bound), bound.1))))
      where
        fits : (j : ℕ) → j < L.resources b → L.max_units < L.bound b' i j → L.bound b' i j ≡ L.unlimited
        fits j l high =
            let is = put.bounds j l in
            is ∙ two (λ k. L.max_units < pair x y k → pair x y k ≡ L.unlimited) (shown_fits shows_x) (shown_fits shows_y) j (omega (arith, ask.valid.sized.resources_fit)) (omega arith)

    pub put_row : (i < L.rows b') × Strategic (L.kind b' i)
    put_row = (omega (arith, same_rows ask.valid ask.inside put.only, ask.inside), rw aim.kind ask.strategic)

    pub put_state : a.state < L.states b'
    put_state = omega (arith, same_states ask.valid ask.inside put.only, ask.state)

    -- a row below has the same set
    set_same : (k : ℕ) → k < i → (w : ℕ) → RowSet b k w → RowSet b' k w
    set_same k lower w (small, says) = (
      small,
      λ s. (
        (λ bit. let (l, met) = (says s).0 bit in (omega (arith, same), (lower_same ask.valid put_valid ask.inside put.only k lower s l).0 met)),
        λ (l, met). let l' : s < L.states b = omega (arith, same) in (says s).1 (l', (lower_same ask.valid put_valid ask.inside put.only k lower s l').1 met),
      ),
    )
      where
        same : L.states b' ≡ L.states b
        same = same_states ask.valid ask.inside put.only

    pub put_lower : LowerTold b' i a.left a.right
    put_lower =
        let fits = ask.valid.row_fits i ask.inside in
        record {
          left_set = λ uses. let here = rw aim.kind at uses in rw aim.left (set_same (L.left b i) (fits.left_lower here) a.left (ask.lower.left_set here));
          right_set = λ uses. let here = rw aim.kind at uses in rw aim.right (set_same (L.right b i) (fits.right_lower here) a.right (ask.lower.right_set here));
        }

    -- the row is true with the pair for its bounds exactly if its ranks in this block say so
    pub enough_told : {ranks : List ℕ} → RanksOf b' i a.left a.right ranks → ClaimsBy (L.kind b' i) (rank_in ranks (number (arena_of b' i) (full (arena_of b' i) a.state))) ↔ Enough b i a.state x y
    enough_told {ranks} ranked =
        let prepared : Prepared b' i a.left a.right ranks = record { left_set = put_lower.left_set; right_set = put_lower.right_set; ranks_of = ranked } in
        let spot = full (arena_of b' i) a.state in
        let fits = full_fits (arena_of b' i) a.state put_state in
        let wins = row_wins b' (valid_proper b' put_valid) i (put_valid.row_fits i put_row.0) put_row.1 a.state put_state in
        let same : bounds_by b (L.bound b' i) ≡ bounds_by b (pair x y) = bounds_same b b refl (L.bound b' i) (pair x y) put.bounds in
        let true-here = subst (λ (bounds : Bounds). RowTrueWith b i bounds a.state ↔ RowTrue b' i a.state) same (put_in ask.valid put_valid ask.inside put.only a.state ask.state) in (
          (λ claim. true-here.1 (wins.1 (claimed_wins put_valid put_row.0 put_row.1 prepared spot fits claim))),
          λ met. wins_claimed_by put_valid put_row.0 put_row.1 prepared spot fits (wins.0 (true-here.0 met)),
        )
