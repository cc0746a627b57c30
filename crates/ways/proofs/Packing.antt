-- Packed stocks have the stocks as digits, so that a place pays what a move takes exactly if no digit is too small. Assumes nothing.
use mathlib.Core.List.{List}
use mathlib.Core.Path.{◌≡◌, refl, sym, ◌∙◌, ap, ap₂, subst, subst₂}
use Prim.Native.Nat.{ℕ, zero, suc, ◌+◌, ◌*◌, ◌/◌, ◌%◌, ◌≤◌, ◌<◌, min}
use native.Mathlib.Nat.{mul-add-div_right, mul-add-mod_self_right, mod-eq_of_lt, mod-lt, div-eq_of_lt}
use native.Mathlib.Omega.{arith}
use Rattle.ways.specs.Lines.{packed_in}
use Rattle.block.specs.Layout as L
use Rattle.block.specs.Layout.{Block}
use Rattle.block.specs.Inner.Valid.{Valid}
use Rattle.game.specs.Rbatl.{Bound, limit, unlimited, full_stock}
use Rattle.game.specs.Position.{Arena, Position, IsPosition, places, number, number_up_to, full, cost, charge, Affordable}
use Rattle.game.specs.Inner.Stocks.{stocks_of, takes, offset}
use Rattle.game.specs.Model.{bounds_of, arena_of}
use Rattle.game.proofs.Numbers.Decide.{eq?, lt?}
use Rattle.game.proofs.Numbers.Stocks.{taken_pays}
use Rattle.game.proofs.Blocks.Passing.{few_places}
use Rattle.ways.specs.Places.{PlacedAt}
use Rattle.ways.specs.Back.{Comes, ComesAt}
use Rattle.ways.specs.Packed.{packed_from, PackedAt, Packs, Narrow, Covers, filled_place}
use Rattle.ways.proofs.Offsets.{full_taken}

-- the stocks of n resources are the digits of w
record Digits (n : ℕ) (p : Position) (w : ℕ) : Type 0 where
  low : w % 32 ≡ p.stock 0
  high : 1 < n → w / 32 ≡ p.stock 1
  none : n ≤ 1 → w / 32 ≡ 0

digits : (n : ℕ) → 1 ≤ n → n ≤ 2 → (p : Position) → ((r : ℕ) → r < n → p.stock r < 16) → Digits n p (packed_from n p 0)
digits zero some few p small = absurd (omega arith)
digits (suc zero) some few p small = record { low = omega (arith, small 0 (omega arith)); high = λ l. absurd (omega arith); none = λ _. omega (arith, small 0 (omega arith)) }
digits (suc (suc zero)) some few p small = record { low = omega (arith, small 0 (omega arith)); high = λ _. omega (arith, small 0 (omega arith)); none = λ l. absurd (omega arith) }
digits (suc (suc (suc n))) some few p small = absurd (omega arith)

module _ (n : ℕ) (some : 1 ≤ n) (few : n ≤ 2) (p : Position) (small : (r : ℕ) → r < n → p.stock r < 16) where
  packed_narrow : Narrow (packed_from n p 0)
  packed_narrow = let d = digits n some few p small in (omega (arith, d.low, small 0 (omega arith)), go (lt? 1 n))
    where
      go : Dec (1 < n) → packed_from n p 0 / 32 < 16
      go (yes l) = omega (arith, (digits n some few p small).high l, small 1 l)
      go (no l) = omega (arith, (digits n some few p small).none (omega arith))

  -- no digit is smaller than another position's exactly if no stock is
  module _ (z : Position) (small-z : (r : ℕ) → r < n → z.stock r < 16) where
    at_most_packed : ((r : ℕ) → r < n → z.stock r ≤ p.stock r) → (packed_from n z 0 % 32 ≤ packed_from n p 0 % 32) × (packed_from n z 0 / 32 ≤ packed_from n p 0 / 32)
    at_most_packed less = (omega (arith, (digits n some few p small).low, (digits n some few z small-z).low, less 0 (omega arith)), go (lt? 1 n))
      where
        go : Dec (1 < n) → packed_from n z 0 / 32 ≤ packed_from n p 0 / 32
        go (yes l) = omega (arith, (digits n some few p small).high l, (digits n some few z small-z).high l, less 1 l)
        go (no l) = omega (arith, (digits n some few z small-z).none (omega arith))

    packed_at_most : (packed_from n z 0 % 32 ≤ packed_from n p 0 % 32) × (packed_from n z 0 / 32 ≤ packed_from n p 0 / 32) → (r : ℕ) → r < n → z.stock r ≤ p.stock r
    packed_at_most (low, high) zero l = omega (arith, (digits n some few p small).low, (digits n some few z small-z).low)
    packed_at_most (low, high) (suc zero) l = omega (arith, (digits n some few p small).high l, (digits n some few z small-z).high l)
    packed_at_most (low, high) (suc (suc r)) l = absurd (omega arith)

-- numbers that are equal come to the same
pub comes_to : {f f' x x' t t' g g' z : ℕ} → f ≡ f' → x ≡ x' → t ≡ t' → g ≡ g' → Comes f' x' t' g' z → Comes f x t g z
comes_to ef ex et eg comes = rw (ef, ex, et, eg) comes

-- the place that stocks fill to
module _ (G : Arena) (few : (1 ≤ G.structure.resources) × (G.structure.resources ≤ 2)) (small : (r : ℕ) → r < G.structure.resources → places (G.bounds r) ≤ 16) where
  abbrev n : ℕ
  n = G.structure.resources

  fits_small : (p : Position) → IsPosition G p → (r : ℕ) → r < n → p.stock r < 16
  fits_small p fits r l = omega (arith, fits.1 r l, small r l)

  full_fits : (b : Bound) → full_stock b < places b
  full_fits (limit k) = omega arith
  full_fits unlimited = omega arith

  full_suc : (b : Bound) → full_stock b + 1 ≡ places b
  full_suc (limit k) = omega arith
  full_suc unlimited = omega arith

  -- a number by its two digits
  by_digits : (y : Position) (low high width : ℕ) → low ≡ y.stock 0 → (1 < n → (high ≡ y.stock 1) × (width ≡ places (G.bounds 1))) → (n ≤ 1 → (high ≡ 0) × (width ≡ 1)) → y.state ≡ 0 → low * width + high ≡ number G y
  by_digits y low high width is two one none = go n few.0 few.1 two one
    where
      go : (k : ℕ) → 1 ≤ k → k ≤ 2 → (1 < k → (high ≡ y.stock 1) × (width ≡ places (G.bounds 1))) → (k ≤ 1 → (high ≡ 0) × (width ≡ 1)) → low * width + high ≡ number_up_to G k y
      go zero some less two one = absurd (omega arith)
      go (suc zero) some less two one =
          let (h, w) = one (omega arith) in
          ap₂ (λ (u v : ℕ). low * u + v) w h ∙ omega (arith, ap (λ (q : ℕ). q * places (G.bounds 0)) none)
      go (suc (suc zero)) some less two one =
          let (h, w) = two (omega arith) in
          let first : low ≡ number_up_to G 1 y = omega (arith, ap (λ (q : ℕ). q * places (G.bounds 0)) none) in
          ap₂ (λ (u v : ℕ). low * u + v) w h ∙ ap (λ (u : ℕ). u * places (G.bounds 1) + y.stock 1) first
      go (suc (suc (suc k))) some less two one = absurd (omega arith)

  module _ (top p g : Position) (top-full : (r : ℕ) → r < n → top.stock r ≡ full_stock (G.bounds r)) (p-fits : (r : ℕ) → r < n → p.stock r < places (G.bounds r)) (g-fits : (r : ℕ) → r < n → g.stock r < places (G.bounds r)) where
    -- as far as there is room
    abbrev filling : Position
    filling = record { state = 0; stock = λ r. min (full_stock (G.bounds r)) (p.stock r + g.stock r) }

    below : (x : Position) → ((r : ℕ) → r < n → x.stock r < places (G.bounds r)) → (r : ℕ) → r < n → x.stock r < 16
    below x x_Fits r l = omega (arith, x_Fits r l, small r l)

    pub filled_number : filled_place (packed_from n top 0) (packed_from n p 0) (packed_from n g 0) ≡ number G filling
    filled_number =
        by_digits filling (min (t % 32) ((w + v) % 32)) (min (t / 32) ((w + v) / 32)) (suc (t / 32))
        low two one refl
      where
        t : ℕ
        t = packed_from n top 0

        w : ℕ
        w = packed_from n p 0

        v : ℕ
        v = packed_from n g 0

        top_fits : (r : ℕ) → r < n → top.stock r < places (G.bounds r)
        top_fits r l = omega (arith, top-full r l, full_fits (G.bounds r))

        dt : Digits n top t
        dt = digits n few.0 few.1 top (below top top_fits)

        dp : Digits n p w
        dp = digits n few.0 few.1 p (below p p-fits)

        dg : Digits n g v
        dg = digits n few.0 few.1 g (below g g-fits)

        sum_low : (w + v) % 32 ≡ p.stock 0 + g.stock 0
        sum_low = omega (arith, dp.low, dg.low, below p p-fits 0 (omega (arith, few)), below g g-fits 0 (omega (arith, few)))

        low : min (t % 32) ((w + v) % 32) ≡ filling.stock 0
        low = ap₂ min (dt.low ∙ top-full 0 (omega (arith, few))) sum_low

        sum_high : (w + v) / 32 ≡ w / 32 + v / 32
        sum_high = omega (arith, dp.low, dg.low, below p p-fits 0 (omega (arith, few)), below g g-fits 0 (omega (arith, few)))

        two : 1 < n → (min (t / 32) ((w + v) / 32) ≡ filling.stock 1) × (suc (t / 32) ≡ places (G.bounds 1))
        two l = (
          ap₂ min (dt.high l ∙ top-full 1 l) (sum_high ∙ ap₂ ◌+◌ (dp.high l) (dg.high l)),
          omega (arith, dt.high l, top-full 1 l, full_suc (G.bounds 1)),
        )

        one : n ≤ 1 → (min (t / 32) ((w + v) / 32) ≡ 0) × (suc (t / 32) ≡ 1)
        one l = (ap₂ min (dt.none l) (sum_high ∙ ap₂ ◌+◌ (dp.none l) (dg.none l)), ap suc (dt.none l))

  -- where the stocks of a place come to, one after another, they come to by their digits
  module _ (top out t g p : Position) (top-full : (r : ℕ) → r < n → top.stock r ≡ full_stock (G.bounds r)) (out-small : (r : ℕ) → r < n → out.stock r < 16) (t-small : (r : ℕ) → r < n → t.stock r < 16) (g-small : (r : ℕ) → r < n → g.stock r < 16)
      (come : (r : ℕ) → r < n → Comes (top.stock r) (out.stock r) (t.stock r) (g.stock r) (p.stock r)) where
    top_small : (r : ℕ) → r < n → top.stock r < 16
    top_small r l = omega (arith, top-full r l, full_fits (G.bounds r), small r l)

    dt : Digits n top (packed_from n top 0)
    dt = digits n few.0 few.1 top top_small

    low_comes : Comes (packed_from n top 0 % 32) (packed_from n out 0 % 32) (packed_from n t 0 % 32) (packed_from n g 0 % 32) (p.stock 0)
    low_comes = comes_to dt.low (digits n few.0 few.1 out out-small).low (digits n few.0 few.1 t t-small).low (digits n few.0 few.1 g g-small).low (come 0 (omega (arith, few)))

    pub comes_at : ComesAt (packed_from n top 0) (packed_from n out 0) (packed_from n t 0) (packed_from n g 0) (number G (stocks_of G p))
    comes_at = go (lt? 1 n)
      where
        go : Dec (1 < n) → ComesAt (packed_from n top 0) (packed_from n out 0) (packed_from n t 0) (packed_from n g 0) (number G (stocks_of G p))
        go (yes l) = (
          p.stock 0,
          p.stock 1,
          sym (by_digits (stocks_of G p) (p.stock 0) (p.stock 1) (suc (packed_from n top 0 / 32)) refl (λ _. (refl, omega (arith, dt.high l, top-full 1 l, full_suc (G.bounds 1)))) (λ one. absurd (omega arith)) refl),
          low_comes,
          comes_to (dt.high l) ((digits n few.0 few.1 out out-small).high l) ((digits n few.0 few.1 t t-small).high l) ((digits n few.0 few.1 g g-small).high l) (come 1 l),
        )
        go (no l) =
            let one : n ≤ 1 = omega arith in (
              p.stock 0,
              0,
              sym (by_digits (stocks_of G p) (p.stock 0) 0 (suc (packed_from n top 0 / 32)) refl (λ two. absurd (omega arith)) (λ _. (refl, ap suc (dt.none one))) refl),
              low_comes,
              comes_to (dt.none one) ((digits n few.0 few.1 out out-small).none one) ((digits n few.0 few.1 t t-small).none one) ((digits n few.0 few.1 g g-small).none one)
                  (record { enough = omega arith; within = omega arith; to = refl }),
            )

-- the packed stocks of place x, with the last resources done
pub record PackingTo (b : Block) (i x j rest packed : ℕ) : Type 0 where
  pub few : j ≤ L.resources b
  pub stocks : (p : Position) → IsPosition (arena_of b i) p → number (arena_of b i) (stocks_of (arena_of b i) p) ≡ x
      → (rest ≡ number_up_to (arena_of b i) j (stocks_of (arena_of b i) p)) × (packed_from j p packed ≡ packed_from (L.resources b) p 0)
  pub none : j ≡ L.resources b → packed ≡ 0
  pub one : L.resources b ≡ j + 1 → packed < 32
  pub small : packed < 1024

pub packing_start : (b : Block) (i x j : ℕ) → j ≡ L.resources b → PackingTo b i x j x 0
packing_start b i x j e = record {
  few = omega arith;
  stocks = λ p fits place. subst (λ (n : ℕ). (x ≡ number_up_to (arena_of b i) n (stocks_of (arena_of b i) p)) × (packed_from n p 0 ≡ packed_from (L.resources b) p 0)) (sym e) (sym place, refl);
  none = λ _. refl;
  one = λ _. omega arith;
  small = omega arith;
}

pub packing_next : (b : Block) → Valid b → (i x j rest packed c : ℕ) → c ≡ places (bounds_of b i j) → 0 < c → c ≤ 16 → PackingTo b i x (suc j) rest packed → PackingTo b i x j (rest / c) (packed * 32 + rest % c)
packing_next b valid i x j rest packed c is some few so_far = record {
  few = omega (arith, so_far.few);
  stocks = λ p fits place.
      let (number-so-far, packed-so-far) = so_far.stocks p fits place in
      let n = number_up_to (arena_of b i) j (stocks_of (arena_of b i) p) in
      let digit : p.stock j < c = omega (arith, fits.1 j (omega (arith, so_far.few))) in
      let whole : rest ≡ n * c + p.stock j = number-so-far ∙ ap (λ (k : ℕ). n * k + p.stock j) (sym is) in
      let last : rest % c ≡ p.stock j = ap (λ (k : ℕ). k % c) whole ∙ mul-add-mod_self_right n c (p.stock j) ∙ mod-eq_of_lt digit in (
        ap (λ (k : ℕ). k / c) whole ∙ mul-add-div_right some n (p.stock j) ∙ ap (n +◌) (div-eq_of_lt digit) ∙ omega arith,
        ap (λ (k : ℕ). packed_from j p (packed * 32 + k)) last ∙ packed-so-far,
      );
  none = λ e. absurd (omega (arith, so_far.few));
  one = λ e. omega (arith, so_far.none (omega arith), below);
  small = go (eq? (suc j) (L.resources b));
}
  where
    below : rest % c < c
    below = mod-lt rest some

    go : Dec (suc j ≡ L.resources b) → packed * 32 + rest % c < 1024
    go (yes e) = omega (arith, so_far.none e, below)
    go (no ne) = omega (arith, so_far.one (omega (arith, so_far.few, valid.sized.resources_fit)), below)

pub packing_done : (b : Block) (i x rest packed : ℕ) → PackingTo b i x 0 rest packed → PackedAt (arena_of b i) x packed
packing_done b i x rest packed done p fits place = (done.stocks p fits place).1

-- stocks are below 16
stocks_small : (b : Block) → Valid b → (i : ℕ) → i < L.rows b → L.Strategic (L.kind b i) → (q : Position) → IsPosition (arena_of b i) q → (r : ℕ) → r < L.resources b → q.stock r < 16
stocks_small b valid i row strategic q fits r l = omega (arith, fits.1 r l, few_places b valid i (valid.row_fits i row) strategic r l)

-- what is packed of a position
pub position_narrow : (b : Block) → Valid b → (i : ℕ) → i < L.rows b → L.Strategic (L.kind b i) → (q : Position) → IsPosition (arena_of b i) q → Narrow (packed_from (L.resources b) q 0)
position_narrow b valid i row strategic q fits = packed_narrow (L.resources b) valid.sized.resources_fit.0 valid.sized.resources_fit.1 q (stocks_small b valid i row strategic q fits)

module _ (b : Block) (valid : Valid b) (i : ℕ) (row : i < L.rows b) (strategic : L.Strategic (L.kind b i)) (packs : List ℕ) (are : Packs (arena_of b i) packs)
    (s x m : ℕ) (ever : Affordable (arena_of b i) (full (arena_of b i) s) m) (p : Position) (placed : PlacedAt (arena_of b i) s x p) where
  abbrev G : Arena
  G = arena_of b i

  -- what the move takes, as stocks
  abbrev needs : Position
  needs = record { state = p.state; stock = (takes G (full G s) m).stock }

  needs_fit : IsPosition G needs
  needs_fit = (placed.fits.0, λ r l. full_taken (G.bounds r) (cost G (full G s) m r) (charge G (full G s) m r) (ever r l))

  small : (q : Position) → IsPosition G q → (r : ℕ) → r < L.resources b → q.stock r < 16
  small = stocks_small b valid i row strategic

  same_takes : (r : ℕ) → needs.stock r ≡ (takes G p m).stock r
  same_takes r = ap (λ (q : ℕ). (takes G (full G q) m).stock r) (sym placed.state)

  packed_here : packed_in packs x ≡ packed_from (L.resources b) p 0
  packed_here = ap (packed_in packs) (sym placed.place) ∙ are p placed.fits

  pub pays_covers : Affordable G p m → Covers packs x (offset G (full G s) m)
  pays_covers paid =
      subst₂ (λ (w v : ℕ). (v % 32 ≤ w % 32) × (v / 32 ≤ w / 32)) (sym packed_here) (sym (are needs needs_fit))
      (at_most_packed (L.resources b) valid.sized.resources_fit.0 valid.sized.resources_fit.1 p (small p placed.fits) needs (small needs needs_fit)
      (λ r l. omega (arith, same_takes r, (taken_pays (G.bounds r) (p.stock r) (cost G p m r) (charge G p m r)).1 (paid r l))))

  pub covers_pays : Covers packs x (offset G (full G s) m) → Affordable G p m
  covers_pays covers r l =
      let enough = packed_at_most (L.resources b) valid.sized.resources_fit.0 valid.sized.resources_fit.1 p (small p placed.fits) needs (small needs needs_fit)
      (subst₂ (λ (w v : ℕ). (v % 32 ≤ w % 32) × (v / 32 ≤ w / 32)) packed_here (are needs needs_fit) covers) r l in
      (taken_pays (G.bounds r) (p.stock r) (cost G p m r) (charge G p m r)).0 (omega (arith, same_takes r))
