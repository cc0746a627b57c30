-- Where a move lands, and where its replies lead from there. Assumes nothing.
use mathlib.Core.Bool.{Bool, true, false}
use mathlib.Core.List.{List}
use mathlib.Core.Logic.{inl}
use mathlib.Core.Path.{◌≡◌, refl, sym, ◌∙◌, ap, ap₂, subst}
use Prim.Native.Nat.{ℕ, ◌+◌, ◌*◌, ◌-◌, ◌≤◌, ◌<◌, min}
use native.Mathlib.Nat.{mul-le-mul}
use native.Mathlib.Omega.{arith}
use Rattle.std.specs.Prelude.{Option, None, Some}
use Rattle.block.specs.Layout as L
use Rattle.block.specs.Layout.{Block}
use Rattle.block.specs.Inner.Valid.{Valid}
use Rattle.game.specs.Rbatl.{full_stock, Pays}
use Rattle.game.specs.Position.{Arena, Position, IsPosition, places, number, full, cost, charge, opponents, MoveOf, Affordable, Allowed, outcome}
use Rattle.game.specs.Inner.Stocks.{stocks_of, stock_places, takes, gives, offset, refill}
use Rattle.game.specs.Model.{structure_of, coalition_of, arena_of}
use Rattle.game.proofs.Blocks.Passing.{valid_proper, few_stocks, few_places}
use Rattle.game.proofs.Blocks.Reading.{outcome_state}
use Rattle.game.proofs.Bridge.Moves.{idle_move}
use Rattle.game.proofs.Bridge.Plays.{outcome_fits}
use Rattle.game.proofs.Bridge.Truth.{full_fits}
use Rattle.game.proofs.Local.Same.{same_number}
use Rattle.game.proofs.Numbers.Decide.{eq?, lt?}
use Rattle.game.proofs.Numbers.Stocks.{taken_pays}
use Rattle.turns.specs.Buffers.{rank_in}
use Rattle.turns.specs.Inner.Rules.{ReplyTo, SideMove}
use Rattle.turns.proofs.Opponents.{joint_small, next_state}
use Rattle.ways.specs.Extremes.{Beyond, Extreme, BestOf, Worst}
use Rattle.ways.specs.Landing.{Remains, Leaves, Lands, Made, rank_after, WorstWithin}
use Rattle.ways.specs.Lines.{field_place, packed_in, count_in, number_in, taken_in, given_in}
use Rattle.ways.specs.Listing.{Listed, StateListed, Eligible, Free, Ends, Useful, Listable, SameOutside}
use Rattle.ways.specs.Places.{PlacedAt}
use Rattle.ways.specs.Rows.{Playable}
use Rattle.ways.specs.Packed.{packed_from, Packs, Narrow, Covers, filled_place}
use Rattle.ways.specs.declared.rows.Row.{Row}
use Rattle.ways.proofs.Filling.{apart, state_same}
use Rattle.ways.proofs.Offsets.{full_pays, number_zero, state_and_stocks, last_place, spent, gives_fit, spent_number, left_stock, remains_number}
use Rattle.ways.proofs.Placing.{stocks_below, place_position}
use Rattle.ways.proofs.Packing.{position_narrow, pays_covers, covers_pays, filled_number}

-- a row has at most 256 stock places
pub few : (b : Block) → Valid b → (row : Row) → Playable b row → row.places ≤ 256
few b valid row playable = omega (arith, playable.places_are, few_stocks b valid row.index playable.inside playable.strategic (L.resources b) (omega arith))

-- a state and a move of its line stand within the listing
pub listed_small : (b : Block) → Valid b → (row : Row) (ways : List ℕ) → Listed b row ways → (s k : ℕ) → s < L.states b → k < count_in ways s true → (s < 24) × (k < 64)
listed_small b valid row ways listed s k state small = (omega (arith, valid.sized.states_fit), omega (arith, ((listed.states s state).lines true).few))

-- a listed move gives nothing where none does
pub gives_none : {b : Block} {row : Row} {ways : List ℕ} {s k : ℕ} → Listed b row ways → row.gives ≡ false → s < L.states b → k < count_in ways s true → given_in ways s k ≡ 0
gives_none {b} {row} {ways} {s} {k} listed none state small = go (eq? (given_in ways s k) 0)
  where
    go : Dec (given_in ways s k ≡ 0) → given_in ways s k ≡ 0
    go (yes e) = e
    go (no ne) = absurd (listed.told none (s, state, (k, small, omega arith)))

-- the number of a position stands within the buffers
pub number_inside : (b : Block) → Valid b → (row : Row) → Playable b row → (s y : ℕ) → s < L.states b → y < row.places → s * row.places + y < 6144
number_inside b valid row playable s y state place =
    let states : s + 1 ≤ 24 = omega (arith, valid.sized.states_fit) in
    let whole : (s + 1) * row.places ≤ 24 * 256 = mul-le-mul states (few b valid row playable) in
    omega (arith, whole)

module _ (b : Block) (valid : Valid b) (row : Row) (playable : Playable b row) where
  abbrev G : Arena
  G = arena_of b row.index

  -- a move that a position pays is one that full stock pays
  pub ever_allowed : (s x m : ℕ) (p : Position) → PlacedAt G s x p → Allowed G p m → Allowed G (full G s) m
  ever_allowed s x m p placed allowed = (
    subst (λ (q : ℕ). MoveOf (structure_of b) (coalition_of b row.index) q m) placed.state allowed.0,
    λ r h. subst (λ (q : ℕ). Pays (G.bounds r) (full_stock (G.bounds r)) (cost G (full G q) m r) (charge G (full G q) m r)) placed.state
        (full_pays (G.bounds r) (p.stock r) (cost G p m r) (charge G p m r) (placed.fits.1 r h) (allowed.1 r h)),
  )

  pub move_here : (s x m : ℕ) (p : Position) → PlacedAt G s x p → MoveOf (structure_of b) (coalition_of b row.index) s m → Affordable G p m → Allowed G p m
  move_here s x m p placed move paid = (subst (λ (q : ℕ). MoveOf (structure_of b) (coalition_of b row.index) q m) (sym placed.state) move, paid)

  -- where all moves are listed, each that is allowed is among them
  pub allowed_useful : row.into ≡ false → (s x : ℕ) (p : Position) → PlacedAt G s x p → (m : ℕ) → Allowed G p m → Useful b row s m
  allowed_useful all s x p placed m allowed =
      (ever_allowed s x m p placed allowed, (λ into. absurd (apart row.into into all)), λ into. absurd (apart row.into into all))

  -- every position of the state pays a move that takes nothing
  pub free_allowed : (s x m : ℕ) (p : Position) → PlacedAt G s x p → Free b row s m → Allowed G p m
  free_allowed s x m p placed (allowed, _, nothing) = move_here s x m p placed allowed.0
      (λ r l.
      let none = number_zero G G.structure.resources (takes G (full G s) m) nothing r l in
      let here : (takes G (full G s) m).stock r ≡ (takes G p m).stock r = ap (λ (q : ℕ). (takes G (full G q) m).stock r) (sym placed.state) in
      (taken_pays (G.bounds r) (p.stock r) (cost G p m r) (charge G p m r)).0 (omega arith))

  -- a position of a place of the state, and the full stocks
  small_places : (r : ℕ) → r < L.resources b → places (G.bounds r) ≤ 16
  small_places r l = few_places b valid row.index (valid.row_fits row.index playable.inside) playable.strategic r l

  -- the k-th listed move at a place: what it takes tells whether the place pays, and what it gives tells what is left besides
  module _ (ways : List ℕ) (listed : Listed b row ways) (s x k o : ℕ) (state : s < L.states b) (place : x < row.places) (small : k < count_in ways s true) (takes-o : o ≡ taken_in ways s k) where
    abbrev m : ℕ
    m = number_in ways s true k

    way : Useful b row s m
    way = ((listed.states s state).lines true).only k small

    offset_o : o ≡ offset G (full G s) m
    offset_o = takes-o ∙ ((listed.states s state).effects k small).0

    refill_g : given_in ways s k ≡ refill G (full G s) m
    refill_g = ((listed.states s state).effects k small).1

    offset_here : (p : Position) → PlacedAt G s x p → o ≡ offset G p m
    offset_here p placed = offset_o ∙ ap (λ (q : ℕ). offset G (full G q) m) (sym placed.state)

    refill_here : (p : Position) → PlacedAt G s x p → given_in ways s k ≡ refill G p m
    refill_here p placed = refill_g ∙ ap (λ (q : ℕ). refill G (full G q) m) (sym placed.state)

    pub taken_small : o < stock_places G
    taken_small = omega (arith, offset_o, spent_number G (full G s) m (full_fits G s state) way.0.1, stocks_below G (full G s) (full_fits G s state))

    -- what is given, as stocks of a state
    gifts : Position
    gifts = record { state = s; stock = (gives G (full G s) m).stock }

    gifts_fit : IsPosition G gifts
    unfolding gifts
    gifts_fit = (state, gives_fit G (full G s) m)

    pub given_small : given_in ways s k < stock_places G
    unfolding gifts
    given_small = omega (arith, refill_g, stocks_below G gifts gifts_fit)

    -- a place that has what is taken has the larger number
    module _ (covers : Covers ways x o) where
      pub paid_at : (p : Position) → PlacedAt G s x p → Affordable G p m
      paid_at p placed = covers_pays b valid row.index playable.inside playable.strategic ways listed.packed s x m way.0.1 p placed (subst (Covers ways x) offset_o covers)

      spent_at : (p : Position) → PlacedAt G s x p → number G (spent G p m) + o ≡ x
      spent_at p placed = omega (arith, spent_number G p m placed.fits (paid_at p placed), placed.place, offset_here p placed)

      pub taken_below : o ≤ x
      taken_below =
          let (p, placed) = place_position G s x state (omega (arith, playable.places_are)) in
          omega (arith, spent_at p placed)

      pub lands_at : given_in ways s k ≡ 0 → Lands G s x m (Some (x - o))
      lands_at none = (
        omega (arith, playable.places_are),
        λ p placed.
            let paid = paid_at p placed in
            (paid, λ r. omega (arith, remains_number G p m placed.fits paid (sym (refill_here p placed) ∙ none) r, placed.place, offset_here p placed)),
      )

      -- with what is given on top
      module _ (p : Position) (placed : PlacedAt G s x p) where
        -- what is left after taking, as a position of the state
        rests : Position
        rests = record { state = s; stock = (spent G p m).stock }

        rests_fit : IsPosition G rests
        unfolding rests
        rests_fit = (state, λ r l. omega (arith, placed.fits.1 r l))

        packed_rests : packed_in ways (x - o) ≡ packed_from (L.resources b) rests 0
        unfolding rests
        packed_rests = ap (packed_in ways) {x = x - o} {y = number G (spent G p m)} (omega (arith, spent_at p placed)) ∙ listed.packed rests rests_fit

        packed_gifts : packed_in ways (given_in ways s k) ≡ packed_from (L.resources b) gifts 0
        unfolding gifts
        packed_gifts = ap (packed_in ways) refill_g ∙ listed.packed gifts gifts_fit

        packed_full : packed_in ways (row.places - 1) ≡ packed_from (L.resources b) (full G s) 0
        packed_full = ap (packed_in ways) {x = row.places - 1} {y = number G (stocks_of G (full G s))} (omega (arith, playable.places_are, last_place G s)) ∙ listed.packed (full G s) (full_fits G s state)

        fills : (r : ℕ) → filled_place (packed_in ways (row.places - 1)) (packed_in ways (x - o)) (packed_in ways (given_in ways s k)) ≡ number G (stocks_of G (outcome G p m r))
        unfolding rests gifts
        fills r =
            rw (packed_full, packed_rests, packed_gifts)
            (filled_number G valid.sized.resources_fit small_places (full G s) rests gifts (λ j l. refl) rests_fit.1 gifts_fit.1
            ∙ sym (same_number G (stocks_of G (outcome G p m r)) (record { state = 0; stock = λ j. min (full_stock (G.bounds j)) ((spent G p m).stock j + (gives G (full G s) m).stock j) })
            (refl, λ j l. left_stock G p m placed.fits (paid_at p placed) r j l ∙ ap (λ (q : ℕ). min (full_stock (G.bounds j)) ((spent G p m).stock j + (gives G (full G q) m).stock j)) placed.state)))

      pub lands_filled : (y : ℕ) → y ≡ filled_place (packed_in ways (row.places - 1)) (packed_in ways (x - o)) (packed_in ways (given_in ways s k)) → Lands G s x m (Some y)
      lands_filled y is =
          let (p, placed) = place_position G s x state (omega (arith, playable.places_are)) in
          let reply = idle_move (structure_of b) (valid_proper b valid) (opponents (coalition_of b row.index)) s state in
          let move = (move_here s x m p placed way.0.0 (paid_at p placed)).0 in
          let fits = outcome_fits G (valid_proper b valid) p m 0 placed.fits move (subst (λ (q : ℕ). ReplyTo b row.index q 0) (sym placed.state) reply) in (
            omega (arith, is, fills p placed 0, stocks_below G (outcome G p m 0) fits),
            λ p' placed'. (paid_at p' placed', λ r. sym (is ∙ fills p' placed' r)),
          )

    pub lands_nowhere : (Covers ways x o → ⊥) → Lands G s x m None
    lands_nowhere unpaid p placed paid = unpaid (subst (Covers ways x) (sym offset_o) (pays_covers b valid row.index playable.inside playable.strategic ways listed.packed s x m way.0.1 p placed paid))

    -- a move that gives nothing lands where it leaves the place
    pub spends_lands : given_in ways s k ≡ 0 → (r : Option ℕ) → Remains ways x o r → Lands G s x m r
    spends_lands none (Some y) (covers, left) = subst (λ (z : ℕ). Lands G s x m (Some z)) {x = x - o} {y = y} (omega arith) (lands_at covers none)
    spends_lands none None unpaid = lands_nowhere unpaid

  -- a move that is made, and the replies to it
  module _ (s m y : ℕ) (made : Made b row s m y) where
    pub reply_joint : (r : ℕ) → ReplyTo b row.index s r → m + r < 64
    reply_joint r reply = joint_small b valid row.index playable.inside playable.strategic s m r made.0 made.1 reply

    pub reply_inside : (r : ℕ) → ReplyTo b row.index s r → L.next b s (m + r) * row.places + y < 6144
    reply_inside r reply = number_inside b valid row playable (L.next b s (m + r)) y (next_state b valid row.index playable.inside playable.strategic s m r made.0 made.1 reply) made.2

    module _ (p : Position) (is_state : p.state ≡ s) (leaves : Leaves G p m y) where
      pub reply_leads : (r : ℕ) → ReplyTo b row.index s r → number G (outcome G p m r) ≡ L.next b s (m + r) * row.places + y
      reply_leads r reply =
          let move : MoveOf (structure_of b) (coalition_of b row.index) p.state m = subst (λ (q : ℕ). MoveOf (structure_of b) (coalition_of b row.index) q m) (sym is_state) made.1 in
          let next : (outcome G p m r).state ≡ L.next b s (m + r) =
          outcome_state b (valid_proper b valid) row.index p m r move (subst (λ (q : ℕ). ReplyTo b row.index q r) (sym is_state) reply) ∙ ap (λ (q : ℕ). L.next b q (m + r)) is_state in
          let scaled : (outcome G p m r).state * stock_places G ≡ L.next b s (m + r) * row.places = ap (λ (q : ℕ). q * stock_places G) next ∙ ap (λ (c : ℕ). L.next b s (m + r) * c) (sym playable.places_are) in
          omega (arith, state_and_stocks G (outcome G p m r), scaled, leaves r)

      -- the extreme over the listed replies is the worst of the move
      pub extreme_worst : (ways : List ℕ) → StateListed b row s ways → (most : Bool) (ranks : List ℕ) (v : ℕ)
          → Extreme most (count_in ways s false) (rank_after b row ways ranks s m y) v → Worst G most (rank_in ranks) p m v
      extreme_worst ways listed most ranks v extreme = record {
        each = λ r reply.
            let here = subst (λ (q : ℕ). ReplyTo b row.index q r) is_state reply in
            let (k, l, e) = (listed.lines false).each r here in
            subst (λ (n : ℕ). Beyond most (rank_in ranks n) v) (ap (λ (q : ℕ). L.next b s (m + q) * row.places + y) e ∙ sym (reply_leads r here)) (extreme.beyond k l);
        some =
            let (k, l, e) = extreme.taken in
            let reply = (listed.lines false).only k l in
            (number_in ways s false k, subst (λ (q : ℕ). ReplyTo b row.index q (number_in ways s false k)) (sym is_state) reply, ap (rank_in ranks) (reply_leads (number_in ways s false k) reply) ∙ e);
      }

    pub best_worst : (ways : List ℕ) → StateListed b row s ways → (ranks : List ℕ) (most : Bool) (limit v : ℕ)
        → BestOf most (count_in ways s false) (rank_after b row ways ranks s m y) limit v → WorstWithin b row ranks s m y most limit v
    best_worst ways listed ranks most limit v best p fits is_state leaves = (best.worst, extreme_worst p is_state leaves ways listed most ranks best.worst best.extreme, best.further)

  -- there is a reply
  pub some_reply : (s : ℕ) (ways : List ℕ) → s < L.states b → StateListed b row s ways → 0 < count_in ways s false
  some_reply s ways state listed = let (k, l, _) = (listed.lines false).each 0 (idle_move (structure_of b) (valid_proper b valid) (opponents (coalition_of b row.index)) s state) in omega arith

  -- what is packed of a stock place
  pub place_narrow : (ways : List ℕ) → Packs G ways → (s x : ℕ) → s < L.states b → x < stock_places G → Narrow (packed_in ways x)
  place_narrow ways packs s x state place =
      let (p, placed) = place_position G s x state place in
      subst Narrow (sym (packs p placed.fits) ∙ ap (packed_in ways) placed.place) (position_narrow b valid row.index playable.inside playable.strategic p placed.fits)

  pub narrow_here : (ways : List ℕ) → Listed b row ways → (s : ℕ) → s < L.states b → (x : ℕ) → x < row.places → Narrow (packed_in ways x)
  narrow_here ways listed s state x small = place_narrow ways listed.packed s x state (omega (arith, playable.places_are))

  -- a number is listed if it is eligible and no smaller one ends the line
  module _ (s : ℕ) where
    pub listable : (ours : Bool) (m : ℕ) → Eligible b row s ours m → ((k : ℕ) → k < m → Ends b row s ours k → ⊥) → Listable b row s ours m
    listable true m (allowed, into) none = (allowed, into, λ soon k less free. none k less (refl, soon, free))
    listable false m reply none = reply

    pub eligible : (ours : Bool) (m : ℕ) → Listable b row s ours m → Eligible b row s ours m
    eligible true m (allowed, into, _) = (allowed, into)
    eligible false m reply = reply

    pub unended : (ours : Bool) (m : ℕ) → Listable b row s ours m → (k : ℕ) → k < m → Ends b row s ours k → ⊥
    unended true m (_, _, none) k less (_, soon, free) = none soon k less free
    unended false m reply k less (ours, _, _) = apart false ours refl

    -- and once a number ends the line, none above it is listed
    pub listed_below : (ours : Bool) (j : ℕ) → Ends b row s ours j → (m : ℕ) → Listable b row s ours m → m < j + 1
    listed_below ours j ends m listed = go (lt? j m)
      where
        go : Dec (j < m) → m < j + 1
        go (yes less) = absurd (unended ours m listed j less ends)
        go (no more) = omega arith

    pub eligible_move : (ours : Bool) (m : ℕ) → Eligible b row s ours m → SideMove b row.index ours s m
    eligible_move true m (allowed, _) = allowed.0
    eligible_move false m reply = reply

    -- a number that ends a line is eligible
    pub ends_eligible : (ours : Bool) (m : ℕ) → Ends b row s ours m → Eligible b row s ours m
    ends_eligible true m (_, _, (allowed, into, _)) = (allowed, λ _. into)
    ends_eligible false m (ours, _, _) = absurd (apart false ours refl)

    pub eligible_ends : (ours : Bool) (m : ℕ) → Eligible b row s ours m → (ours ≡ true) × (row.into ≡ true) × (offset G (full G s) m ≡ 0) → Ends b row s ours m
    eligible_ends true m (allowed, into) (ours, soon, nothing) = (ours, soon, (allowed, into soon, nothing))
    eligible_ends false m reply (ours, _, _) = absurd (apart false ours refl)

-- one more state is listed, and the states and packed stocks before it stay
module _ (b : Block) (row : Row) (s : ℕ) (l l' : List ℕ) (same : SameOutside (field_place s 0) (field_place (s + 1) 0) l l') where
  pub states_next : ((t : ℕ) → t < s → StateListed b row t l) → StateListed b row s l' → (t : ℕ) → t < s + 1 → StateListed b row t l'
  states_next so_far one t small = go (eq? t s)
    where
      go : Dec (t ≡ s) → StateListed b row t l'
      go (yes e) = subst (λ (q : ℕ). StateListed b row q l') (sym e) one
      go (no ne) =
          let below : t < s = omega arith in
          state_same b row t l l' (λ f field. same.same (field_place t f) (inl (omega arith))) (so_far t below)

  pub packs_kept : Valid b → Playable b row → Packs (arena_of b row.index) l → Packs (arena_of b row.index) l'
  packs_kept valid playable packs p fits =
      let x = number (arena_of b row.index) (stocks_of (arena_of b row.index) p) in
      let small : x < 256 = omega (arith, stocks_below (arena_of b row.index) p fits, few b valid row playable, playable.places_are) in
      ap₂ (λ (u v : ℕ). u + 256 * v) (same.same (2 * x) (inl (omega arith))) (same.same (2 * x + 1) (inl (omega arith))) ∙ packs p fits
