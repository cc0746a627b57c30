-- A place from which a listed move leads to another comes there by the digits of its packed stocks. Assumes nothing.
use mathlib.Core.Bool.{true}
use mathlib.Core.List.{List}
use mathlib.Core.Path.{◌≡◌, refl, sym, ◌∙◌, ap, subst}
use Prim.Native.Nat.{ℕ, ◌-◌, ◌≤◌, ◌<◌}
use native.Mathlib.Omega.{arith}
use Rattle.block.specs.Layout as L
use Rattle.block.specs.Layout.{Block}
use Rattle.block.specs.Inner.Valid.{Valid}
use Rattle.game.specs.Rbatl.{Bound, limit, unlimited, full_stock}
use Rattle.game.specs.Position.{Arena, Position, IsPosition, places, number, full, cost, charge, Affordable, outcome}
use Rattle.game.specs.Inner.Stocks.{stocks_of, takes, gives}
use Rattle.game.specs.Model.{arena_of}
use Rattle.game.proofs.Blocks.Passing.{few_places}
use Rattle.game.proofs.Bridge.Truth.{full_fits}
use Rattle.game.proofs.Numbers.Stocks.{remaining_fits, taken_pays}
use Rattle.ways.specs.Back.{Leads, Comes, ComesAt}
use Rattle.ways.specs.Lines.{packed_in, count_in, number_in, taken_in, given_in}
use Rattle.ways.specs.Listing.{Listed, Useful}
use Rattle.ways.specs.Places.{PlacedAt}
use Rattle.ways.specs.Rows.{Playable}
use Rattle.ways.specs.declared.rows.Row.{Row}
use Rattle.ways.proofs.Offsets.{full_taken, last_place, gives_fit, left_stock}
use Rattle.ways.proofs.Packing.{comes_at}

full_most : (b : Bound) (s : ℕ) → s < places b → s ≤ full_stock b
full_most (limit n) s l = omega arith
full_most unlimited s l = omega arith

module _ (b : Block) (valid : Valid b) (row : Row) (playable : Playable b row) (ways : List ℕ) (listed : Listed b row ways) (s k : ℕ) (state : s < L.states b) (small : k < count_in ways s true) where
  abbrev G : Arena
  G = arena_of b row.index

  abbrev m : ℕ
  m = number_in ways s true k

  way : Useful b row s m
  way = ((listed.states s state).lines true).only k small

  few : (r : ℕ) → r < L.resources b → places (G.bounds r) ≤ 16
  few r l = few_places b valid row.index (valid.row_fits row.index playable.inside) playable.strategic r l

  -- what the move takes and gives, as stocks of the state
  needs : Position
  needs = record { state = s; stock = (takes G (full G s) m).stock }

  needs_fit : IsPosition G needs
  unfolding needs
  needs_fit = (state, λ r l. full_taken (G.bounds r) (cost G (full G s) m r) (charge G (full G s) m r) (way.0.1 r l))

  gifts : Position
  gifts = record { state = s; stock = (gives G (full G s) m).stock }

  gifts_fit : IsPosition G gifts
  unfolding gifts
  gifts_fit = (state, gives_fit G (full G s) m)

  below : (q : Position) → IsPosition G q → (r : ℕ) → r < L.resources b → q.stock r < 16
  below q fits r l = omega (arith, fits.1 r l, few r l)

  module _ (z x : ℕ) (led : Leads G s z m x) where
    p : Position
    p = led.0

    placed : PlacedAt G s z p
    unfolding p
    placed = led.1

    paid : Affordable G p m
    unfolding p
    paid = led.2

    -- what is left, as stocks of the state
    left : Position
    left = record { state = s; stock = (outcome G p m 0).stock }

    left_fits : IsPosition G left
    unfolding left
    left_fits = (state, λ r l. remaining_fits (G.bounds r) (p.stock r) (cost G p m r) (charge G p m r) (placed.fits.1 r l))

    come : (r : ℕ) → r < L.resources b → Comes ((full G s).stock r) (left.stock r) (needs.stock r) (gifts.stock r) (p.stock r)
    unfolding left needs gifts
    come r l =
        let same_takes : (takes G (full G s) m).stock r ≡ (takes G p m).stock r = ap (λ (q : ℕ). (takes G (full G q) m).stock r) (sym placed.state) in
        let same_gives : (gives G (full G s) m).stock r ≡ (gives G p m).stock r = ap (λ (q : ℕ). (gives G (full G q) m).stock r) (sym placed.state) in
        record {
          enough = omega (arith, same_takes, (taken_pays (G.bounds r) (p.stock r) (cost G p m r) (charge G p m r)).1 (paid r l));
          within = full_most (G.bounds r) (p.stock r) (placed.fits.1 r l);
          to = left_stock G p m placed.fits paid 0 r l ∙ rw (same_takes, same_gives) refl;
        }

    pub leads_comes : ComesAt (packed_in ways (row.places - 1)) (packed_in ways x) (packed_in ways (taken_in ways s k)) (packed_in ways (given_in ways s k)) z
    unfolding p left needs gifts
    leads_comes =
        let here : number G (stocks_of G p) ≡ z = placed.place in
        let effects = (listed.states s state).effects k small in
        let full_at : packed_in ways (row.places - 1) ≡ _ = ap (packed_in ways) {x = row.places - 1} {y = number G (stocks_of G (full G s))} (omega (arith, playable.places_are, last_place G s)) ∙ listed.packed (full G s) (full_fits G s state) in
        let left_at : packed_in ways x ≡ _ = ap (packed_in ways) {x = x} {y = number G (stocks_of G left)} (sym (led.3 0)) ∙ listed.packed left left_fits in
        let takes_at : packed_in ways (taken_in ways s k) ≡ _ = ap (packed_in ways) effects.0 ∙ listed.packed needs needs_fit in
        let gives_at : packed_in ways (given_in ways s k) ≡ _ = ap (packed_in ways) effects.1 ∙ listed.packed gifts gifts_fit in
        subst (ComesAt (packed_in ways (row.places - 1)) (packed_in ways x) (packed_in ways (taken_in ways s k)) (packed_in ways (given_in ways s k))) here
        (rw (full_at, left_at, takes_at, gives_at)
        (comes_at G valid.sized.resources_fit few (full G s) left needs gifts p (λ r l. refl) (below left left_fits) (below needs needs_fit) (below gifts gifts_fit) come))
