-- Where moves give nothing stock is only spent; where they give, flagged places are worked off until none is left. Assumes nothing.
use mathlib.Core.Bool.{Bool, true, false, cond}
use mathlib.Core.List.{List, [], ◌∷◌}
use mathlib.Core.Path.{◌≡◌, refl, sym, ◌∙◌, ap, subst}
use Prim.Native.Nat.{ℕ, zero, suc, ◌+◌, ◌*◌, ◌≤◌, ◌<◌}
use native.Mathlib.Nat.{lt_trans}
use native.Mathlib.Omega.{arith}
use lib.ListN.{get_or, length, set, length-set, replicate, length-replicate, get_or-replicate}
use lib.Seq.{get_or-set_same, get_or-set_other}
use Rattle.block.specs.Layout as L
use Rattle.block.specs.Layout.{Block}
use Rattle.block.specs.Inner.Valid.{Valid}
use Rattle.game.specs.Position.{Arena, Position, IsPosition, number, positions, full, Allowed, outcome}
use Rattle.game.specs.Inner.Stocks.{stocks_of, stock_places, refill}
use Rattle.game.specs.Inner.Sweep.{total}
use Rattle.game.specs.Model.{arena_of}
use Rattle.game.specs.Table.{never}
use Rattle.game.proofs.Blocks.Passing.{valid_proper}
use Rattle.game.proofs.Bridge.Proper.{Proper}
use Rattle.game.proofs.Numbers.Counting.{total_falls}
use Rattle.game.proofs.Numbers.Decide.{eq?, lt?}
use Rattle.turns.specs.Buffers.{rank_in}
use Rattle.ways.specs.Back.{Flags, Marked, LedFrom}
use Rattle.ways.specs.Listing.{AnyGives, Listed}
use Rattle.ways.specs.Lines.{given_in}
use Rattle.ways.specs.Places.{PlacedAt}
use Rattle.ways.specs.Rows.{Playable}
use Rattle.ways.specs.declared.rows.Row.{Row}
use Rattle.ways.proofs.Leading.{few, allowed_useful}
use Rattle.sweeps.specs.Sweeps.{KeptFor, RestsAt, RestsBelow, PlaceSettled, Settled, RestsUnflagged, work_left, Worked}
use Rattle.sweeps.proofs.Sweeping.{Spends, rests_still, settled_all}

-- a test has one value
pub truly : (t : Bool) → t ≡ true → t ≡ false → ⊥
truly t is not = let z : ◌≡◌ {A = ℕ} 0 1 = cc in omega arith

-- past its end a list has nothing
get_d_past : (l : List ℕ) (z : ℕ) → length l ≤ z → get_or l z 0 ≡ 0
get_d_past [] z past = refl
get_d_past (x ∷ l) zero past = absurd (omega arith)
get_d_past (x ∷ l) (suc z) past = get_d_past l z (omega arith)

-- a total of flags is at most their number
flags_few : (f : ℕ → ℕ) → ((z : ℕ) → f z ≤ 1) → (n : ℕ) → total f n ≤ n
flags_few f bits zero = omega arith
flags_few f bits (suc n) = omega (arith, flags_few f bits n, bits n)

-- every place flagged
abbrev pub all_flags : List ℕ
all_flags = replicate 256 1

pub all_flagged : (z : ℕ) → z < 256 → get_or all_flags z 0 ≡ 1
all_flagged z small = get_or-replicate 256 z 1 0 small

pub all_flags_lem : Flags all_flags
all_flags_lem = record { bits = λ z. bit z (lt? z 256); long = length-replicate {A = ℕ} 256 1 }
  where
    bit : (z : ℕ) → Dec (z < 256) → get_or all_flags z 0 ≤ 1
    bit z (yes small) = omega (arith, all_flagged z small)
    bit z (no large) = omega (arith, get_d_past all_flags z (omega (arith, length-replicate {A = ℕ} 256 1)))

-- ranks that fell outweigh the flags, and flags count where no rank fell
less_sum : (r r' f f' : ℕ) → r' < r → f' ≤ 256 → 257 * r' + f' < 257 * r + f
less_sum r r' f f' fell few = omega arith

same_sum : (r r' f f' : ℕ) → r' ≡ r → f' < f → 257 * r' + f' < 257 * r + f
same_sum r r' f f' same fewer = omega arith

module _ (b : Block) (valid : Valid b) (row : Row) (playable : Playable b row) (ways : List ℕ) (listed : Listed b row ways) (all : row.into ≡ false) where
  abbrev G : Arena
  G = arena_of b row.index

  -- a position stands at its own place
  placed_self : (p : Position) → IsPosition G p → PlacedAt G p.state (number G (stocks_of G p)) p
  placed_self p fits = record { fits = fits; state = refl; place = refl }

  pub spends_none : (AnyGives b ways → ⊥) → Spends G
  spends_none none p m fits a =
      let (k, small, e) = ((listed.states p.state fits.0).lines true).each m (allowed_useful b valid row playable all p.state (number G (stocks_of G p)) p (placed_self p fits) m a) in
      let gives : given_in ways p.state k ≡ refill G p m = ((listed.states p.state fits.0).effects k small).1 ∙ ap (refill G (full G p.state)) e in
      let no : 0 < given_in ways p.state k → ⊥ = λ some. none (p.state, fits.0, (k, small, some)) in
      omega arith

  module _ (most : Bool) (safe : ℕ) where
    -- place x was flagged; it is settled, the places that lead to it are flagged where a rank fell there, and its own flag is gone
    module _ (x : ℕ) (flags marked : List ℕ) (did : Bool) (l l' : List ℕ) (place : x < row.places) (here : get_or flags x 0 ≡ 1) (long : length flags ≡ 256)
        (settled : PlaceSettled G most safe x did l l') (marks : did ≡ true → Marked (LedFrom b row x) flags marked) (same : did ≡ false → marked ≡ flags) where
      abbrev cleared : List ℕ
      cleared = set marked x 0

      inside : x < 256
      inside = omega (arith, few b valid row playable)

      -- flags stay, but that of x
      still : (d : Bool) → (d ≡ true → Marked (LedFrom b row x) flags marked) → (d ≡ false → marked ≡ flags) → (z : ℕ) → get_or flags z 0 ≡ 1 → get_or marked z 0 ≡ 1
      still true marks same z e = (marks refl).still z e
      still false marks same z e = ap (λ (f : List ℕ). get_or f z 0) (same refl) ∙ e

      flags_marked : (d : Bool) → (d ≡ true → Marked (LedFrom b row x) flags marked) → (d ≡ false → marked ≡ flags) → Flags flags → Flags marked
      flags_marked true marks same f = (marks refl).flags f
      flags_marked false marks same f = subst Flags (sym (same refl)) f

      long_marked : (d : Bool) → (d ≡ true → Marked (LedFrom b row x) flags marked) → (d ≡ false → marked ≡ flags) → length marked ≡ 256
      long_marked true marks same = (marks refl).long ∙ long
      long_marked false marks same = ap length (same refl) ∙ long

      other : (z : ℕ) → (z ≡ x → ⊥) → get_or cleared z 0 ≡ get_or marked z 0
      other z ne = get_or-set_other marked x z 0 0 ne

      gone : get_or cleared x 0 ≡ 0
      gone = get_or-set_same marked x 0 0 (omega (arith, long_marked did marks same, inside))

      cleared_flags : Flags flags → Flags cleared
      cleared_flags f = record { bits = λ z. bits z (eq? z x); long = length-set marked x 0 ∙ long_marked did marks same }
        where
          bits : (z : ℕ) → Dec (z ≡ x) → get_or cleared z 0 ≤ 1
          bits z (yes e) = omega (arith, ap (λ (k : ℕ). get_or cleared k 0) e, gone)
          bits z (no ne) = omega (arith, other z ne, (flags_marked did marks same f).bits z)

      -- a place without a flag did not have one before, and does not lead to x where ranks fell there
      unflagged : Flags flags → (z : ℕ) → (z ≡ x → ⊥) → get_or cleared z 0 ≡ 0 → get_or flags z 0 ≡ 0
      unflagged f z ne e = go (eq? (get_or flags z 0) 1)
        where
          go : Dec (get_or flags z 0 ≡ 1) → get_or flags z 0 ≡ 0
          go (yes set) = absurd (omega (arith, still did marks same z set, other z ne))
          go (no unset) = omega (arith, f.bits z)

      apart : did ≡ true → (z : ℕ) → z < stock_places G → (z ≡ x → ⊥) → get_or cleared z 0 ≡ 0 → (s : ℕ) → s < L.states b → (p : Position) → PlacedAt G s z p → (m r : ℕ) → Allowed G p m → number G (stocks_of G (outcome G p m r)) ≡ x → ⊥
      apart fell z small ne e s state p placed m r a leads =
          omega (arith, (marks fell).each z (omega (arith, few b valid row playable, playable.places_are)) (s, state, (m, allowed_useful b valid row playable all s z p placed m a, (p, placed, a.1, λ r'. leads))), other z ne)

      worked_rests : Flags flags → RestsUnflagged G most safe flags l → RestsUnflagged G most safe cleared l'
      worked_rests f before z small e = go (eq? z x) did settled refl
        where
          go : Dec (z ≡ x) → (d : Bool) → PlaceSettled G most safe x d l l' → d ≡ did → RestsBelow G most safe z G.structure.states l'
          go (yes here) d done is = subst (λ (y : ℕ). RestsBelow G most safe y G.structure.states l') (sym here) done.rests
          go (no ne) true done is = λ s state. rests_still G (valid_proper b valid) most safe x z s l l' ne done.changed (apart (sym is) z small ne e s state) (before z small (unflagged f z ne e) s state)
          go (no ne) false done is = λ s state. subst (RestsAt G most safe z s) (sym (done.quiet refl)) (before z small (unflagged f z ne e) s state)

      -- less is left to do
      worked_less : Flags flags → work_left G cleared l' < work_left G flags l
      worked_less f = go did settled refl
        where
          few_flags : total (λ z. get_or cleared z 0) 256 ≤ 256
          few_flags = flags_few (λ z. get_or cleared z 0) (cleared_flags f).bits 256

          go : (d : Bool) → PlaceSettled G most safe x d l l' → d ≡ did → work_left G cleared l' < work_left G flags l
          go true done is = less_sum (total (rank_in l) (positions G)) (total (rank_in l') (positions G)) (total (λ z. get_or flags z 0) 256) (total (λ z. get_or cleared z 0) 256) (done.falls refl) few_flags
          go false done is =
              let unchanged : (j : ℕ) → (j ≡ x → ⊥) → get_or cleared j 0 ≡ get_or flags j 0 = λ j ne. other j ne ∙ ap (λ (k : List ℕ). get_or k j 0) (same (sym is)) in
              let fewer = total_falls 256 (λ z. get_or flags z 0) (λ z. get_or cleared z 0) x inside unchanged (omega (arith, gone, here)) 256 inside in
              same_sum (total (rank_in l) (positions G)) (total (rank_in l') (positions G)) (total (λ z. get_or flags z 0) 256) (total (λ z. get_or cleared z 0) 256) (ap (λ (k : List ℕ). total (rank_in k) (positions G)) (done.quiet refl)) fewer

      pub worked_off : Worked G most safe x true flags cleared l l'
      worked_off = record {
        kept = settled.kept;
        rests = worked_rests;
        flagged = cleared_flags;
        less = λ _. worked_less;
        quiet = λ e. let z : ◌≡◌ {A = ℕ} 0 1 = cc in absurd (omega arith);
        beyond = settled.changed.beyond;
        long = settled.changed.long;
      }

-- rounds over the flagged places of a row
module _ (G : Arena) (most : Bool) (safe : ℕ) where
  pub worked_none : (flags l : List ℕ) → Worked G most safe 0 false flags flags l l
  worked_none flags l = record {
    kept = λ goal kept. kept;
    rests = λ f rests. rests;
    flagged = λ f. f;
    less = λ e. let z : ◌≡◌ {A = ℕ} 0 1 = cc in absurd (omega arith);
    quiet = λ _. (refl, refl, λ z small. absurd (omega arith));
    beyond = λ n _. refl;
    long = refl;
  }

  -- a place without a flag is passed over
  pub worked_skip : (x : ℕ) (did : Bool) (flags flags' l l' : List ℕ) → Worked G most safe x did flags flags' l l' → get_or flags' x 0 ≡ 0 → Worked G most safe (x + 1) did flags flags' l l'
  worked_skip x did flags flags' l l' so_far none = record {
    kept = so_far.kept;
    rests = so_far.rests;
    flagged = so_far.flagged;
    less = so_far.less;
    quiet = λ e. let (same, ranks, before) = so_far.quiet e in (same, ranks, λ z small. at same before z small (eq? z x));
    beyond = so_far.beyond;
    long = so_far.long;
  }
    where
      at : flags' ≡ flags → ((z : ℕ) → z < x → get_or flags z 0 ≡ 0) → (z : ℕ) → z < x + 1 → Dec (z ≡ x) → get_or flags z 0 ≡ 0
      at same before z small (yes e) = ap (get_or flags z) refl ∙ ap (λ (k : ℕ). get_or flags k 0) e ∙ ap (λ (f : List ℕ). get_or f x 0) (sym same) ∙ none
      at same before z small (no ne) = before z (omega arith)

  -- and one with a flag is worked off
  pub worked_next : (x : ℕ) (did : Bool) (flags flags' flags'' l l' l'' : List ℕ) → Worked G most safe x did flags flags' l l' → Worked G most safe x true flags' flags'' l' l'' → Worked G most safe (x + 1) true flags flags'' l l''
  worked_next x did flags flags' flags'' l l' l'' so_far one = record {
    kept = λ goal kept. one.kept goal (so_far.kept goal kept);
    rests = λ f rests. one.rests (so_far.flagged f) (so_far.rests f rests);
    flagged = λ f. one.flagged (so_far.flagged f);
    less = λ _ f. go did so_far f;
    quiet = λ e. let z : ◌≡◌ {A = ℕ} 0 1 = cc in absurd (omega arith);
    beyond = λ n outside. one.beyond n outside ∙ so_far.beyond n outside;
    long = one.long ∙ so_far.long;
  }
    where
      go : (d : Bool) → Worked G most safe x d flags flags' l l' → Flags flags → work_left G flags'' l'' < work_left G flags l
      go true before f = lt_trans (one.less refl (before.flagged f)) (before.less refl f)
      go false before f =
          let (same, ranks, _) = before.quiet refl in
          subst (λ (k : List ℕ). work_left G flags'' l'' < work_left G k l) same (subst (λ (k : List ℕ). work_left G flags'' l'' < work_left G flags' k) ranks (one.less refl (before.flagged f)))

  -- where two ways join
  pub worked_as : {x : ℕ} {did did' : Bool} {flags flags' flags'' l l' l'' : List ℕ} → flags'' ≡ flags' → l'' ≡ l' → did' ≡ did → Flags flags' × Worked G most safe x did flags flags' l l' → Flags flags'' × Worked G most safe x did' flags flags'' l l''
  worked_as ef el ed worked = rw (ef, el, ed) worked

  -- rounds so far, and whether another is needed
  pub record Working (more : Bool) (flags l l' : List ℕ) : Type 0 where
    pub kept : (goal : ℕ) → KeptFor G most safe goal l → KeptFor G most safe goal l'
    pub flagged : Flags flags
    pub rests : RestsUnflagged G most safe flags l'
    pub done : more ≡ false → (z : ℕ) → z < stock_places G → get_or flags z 0 ≡ 0
    pub beyond : (n : ℕ) → positions G ≤ n → rank_in l' n ≡ rank_in l n
    pub long : length l' ≡ length l

  pub working_first : (flags l : List ℕ) → Flags flags → ((z : ℕ) → z < stock_places G → get_or flags z 0 ≡ 1) → Working true flags l l
  working_first flags l f all = record {
    kept = λ goal kept. kept;
    flagged = f;
    rests = λ z small none. absurd (omega (arith, all z small));
    done = λ e. let z : ◌≡◌ {A = ℕ} 0 1 = cc in absurd (omega arith);
    beyond = λ n _. refl;
    long = refl;
  }

  pub working_next : (c : ℕ) → c ≡ stock_places G → (more did : Bool) (flags flags' l l' l'' : List ℕ) → Working more flags l l' → Worked G most safe c did flags flags' l' l'' → Working did flags' l l''
  working_next c are more did flags flags' l l' l'' before one = record {
    kept = λ goal kept. one.kept goal (before.kept goal kept);
    flagged = one.flagged before.flagged;
    rests = one.rests before.flagged before.rests;
    done = λ e z small. let (same, _, none) = one.quiet e in ap (λ (f : List ℕ). get_or f z 0) same ∙ none z (omega arith);
    beyond = λ n outside. one.beyond n outside ∙ before.beyond n outside;
    long = one.long ∙ before.long;
  }

  abbrev pub rounds_left : Bool → List ℕ → List ℕ → ℕ
  rounds_left more flags l = 2 * work_left G flags l + cond more 1 0

  pub round_less : (c : ℕ) (did : Bool) (flags flags' l l' : List ℕ) → Flags flags → Worked G most safe c did flags flags' l l' → rounds_left did flags' l' < rounds_left true flags l
  round_less c true flags flags' l l' f one = let less = one.less refl f in twice (work_left G flags' l') (work_left G flags l) less
    where
      twice : (a b : ℕ) → a < b → 2 * a + 1 < 2 * b + 1
      twice a b less = omega arith
  round_less c false flags flags' l l' f one =
      let (same, ranks, _) = one.quiet refl in
      subst (λ (k : List ℕ). rounds_left false flags' l' < rounds_left true k l) same (subst (λ (k : List ℕ). rounds_left false flags' l' < rounds_left true flags' k) ranks (once (work_left G flags' l')))
    where
      once : (a : ℕ) → 2 * a + 0 < 2 * a + 1
      once a = omega arith

  pub working_done : (proper : Proper G.structure) → positions G < never → (flags l l' : List ℕ) → Working false flags l l' → Settled G most safe l l'
  working_done proper few flags l l' all =
      settled_all G proper most safe few l l' (record { kept = all.kept; rests = λ y small. all.rests y small (all.done refl y small); beyond = all.beyond; long = all.long })
