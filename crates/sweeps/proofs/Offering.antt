-- What a listed move offers at a place: the worst over its replies where the place pays it, and nothing elsewhere; the listed moves leave
-- nothing out. Assumes nothing.
use mathlib.Core.Bool.{Bool, true, false, not}
use mathlib.Core.List.{List}
use mathlib.Core.Logic.{inl, inr, ⊎_elim}
use mathlib.Core.Path.{◌≡◌, sym, subst}
use Prim.Native.Nat.{ℕ, ◌<◌}
use native.Mathlib.Omega.{arith}
use Rattle.std.specs.Prelude.{None, Some}
use Rattle.block.specs.Layout as L
use Rattle.block.specs.Layout.{Block}
use Rattle.block.specs.Inner.Valid.{Valid}
use Rattle.game.specs.Position.{Arena, Position, MoveOf}
use Rattle.game.specs.Model.{structure_of, coalition_of, arena_of}
use Rattle.game.proofs.Blocks.Passing.{valid_proper}
use Rattle.turns.specs.Buffers.{rank_in}
use Rattle.ways.specs.Extremes.{Beyond, Worst}
use Rattle.ways.specs.Landing.{Lands, WorstWithin}
use Rattle.ways.specs.Lines.{count_in, number_in}
use Rattle.ways.specs.Listing.{Listed}
use Rattle.ways.specs.Rows.{Playable}
use Rattle.ways.specs.declared.rows.Row.{Row}
use Rattle.ways.proofs.Leading.{move_here, allowed_useful}
use Rattle.ways.proofs.Placing.{place_position}
use Rattle.sweeps.specs.Values.{Gathered, MoveOffers, OneOf}
use Rattle.sweeps.proofs.Gathering.{gathered_nothing}
use Rattle.sweeps.proofs.Valuing.{move_small}

-- a move has one worst rank
worst_one : (G : Arena) (most : Bool) (rank : ℕ → ℕ) (p : Position) (m u v : ℕ) → Worst G most rank p m u → Worst G most rank p m v → u ≡ v
worst_one G true rank p m u v a b = let (r, reply, e) = a.some in let (q, reply', e') = b.some in omega (arith, a.each q reply', b.each r reply)
worst_one G false rank p m u v a b = let (r, reply, e) = a.some in let (q, reply', e') = b.some in omega (arith, a.each q reply', b.each r reply)

module _ (b : Block) (valid : Valid b) (row : Row) (playable : Playable b row) (s x m : ℕ) (state : s < L.states b) (place : x < row.places) (most : Bool) (ranks : List ℕ) where
  abbrev G : Arena
  G = arena_of b row.index

  pub offer_gathered : MoveOf (structure_of b) (coalition_of b row.index) s m → (y limit v : ℕ) → Lands G s x m (Some y) → WorstWithin b row ranks s m y most limit v
      → Gathered (not most) (MoveOffers G most (rank_in ranks) s x m) limit v
  offer_gathered move y limit v (_, lands) within =
      let (p, placed) = place_position G s x state (omega (arith, playable.places_are)) in
      let (paid, leaves) = lands p placed in
      let (worst, is-worst, further) = within p placed.fits placed.state leaves in
      record {
        best = λ u (q, placed', allowed, worst-u).
            let (w, is-w, further-w) = within q placed'.fits placed'.state (lands q placed').1 in
            subst (λ (z : ℕ). Beyond (not most) z v) (worst_one G most (rank_in ranks) q m w u is-w worst-u) further-w.first;
        kept = further.second;
        some = ⊎_elim (λ e. inr (p, placed, move_here b valid row playable s x m p placed move paid, subst (Worst G most (rank_in ranks) p m) (sym e) is-worst)) inl further.taken;
      }

  pub offer_nothing : Lands G s x m None → (v : ℕ) → Gathered (not most) (MoveOffers G most (rank_in ranks) s x m) v v
  offer_nothing unpaid = gathered_nothing (not most) (MoveOffers G most (rank_in ranks) s x m) (λ v (p, placed, allowed, _). unpaid p placed allowed.1)

-- the listed moves offer what all moves do
module _ (b : Block) (valid : Valid b) (row : Row) (playable : Playable b row) (ways : List ℕ) (listed : Listed b row ways) (all : row.into ≡ false) (s x : ℕ) (state : s < L.states b) (most : Bool) (rank : ℕ → ℕ) where
  abbrev offers : ℕ → ℕ → Type 0
  offers = MoveOffers (arena_of b row.index) most rank s x

  pub list_all : (v : ℕ) → OneOf (count_in ways s true) (λ k. offers (number_in ways s true k)) v → OneOf 64 offers v
  list_all v (k, l, (p, placed, allowed, worst)) =
      (number_in ways s true k, move_small (arena_of b row.index) (valid_proper b valid) rank s x p placed v (number_in ways s true k) valid.sized.agents_fit.1 allowed, (p, placed, allowed, worst))

  pub all_list : (v : ℕ) → OneOf 64 offers v → OneOf (count_in ways s true) (λ k. offers (number_in ways s true k)) v
  all_list v (m, l, (p, placed, allowed, worst)) =
      let (k, below, e) = ((listed.states s state).lines true).each m (allowed_useful b valid row playable all s x p placed m allowed) in
      (k, below, subst (λ (y : ℕ). offers y v) (sym e) (p, placed, allowed, worst))
