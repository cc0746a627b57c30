-- One position takes a step, and nothing else changes; and what is waited for next. Assumes nothing.
use mathlib.Core.Bool.{Bool, true, false}
use mathlib.Core.List.{List}
use mathlib.Core.Logic.{◌⊎◌, inl, inr, ⊎_elim}
use mathlib.Core.Path.{◌≡◌, refl, sym, ◌∙◌, ap, subst, subst₂}
use Prim.Native.Nat.{ℕ, suc, ◌+◌, ◌*◌, ◌/◌, ◌%◌, ◌≤◌, ◌<◌}
use native.Mathlib.Nat.{suc-mul, mul-le-mul_right, mul-add-div_right, mul-add-mod_self_right, mod-eq_of_lt, div-eq_of_lt}
use native.Mathlib.Omega.{arith}
use lib.ListN.{length, set, length-set}
use lib.Seq.{get_or-set_same, get_or-set_other}
use Rattle.block.specs.Decide.{Bit}
use Rattle.block.specs.Layout as L
use Rattle.block.specs.Layout.{Block}
use Rattle.block.specs.Inner.Valid.{Valid}
use Rattle.game.specs.Model.{arena_of}
use Rattle.game.specs.Position.{positions}
use Rattle.game.proofs.Blocks.Passing.{states_times}
use Rattle.game.proofs.Numbers.Decide.{eq?, lt?}
use Rattle.turns.specs.Buffers.{rank_in}
use Rattle.turns.specs.Inner.Stores.{Stored}
use Rattle.turns.specs.Sizes.{max_stock_places}
use Rattle.ways.specs.Lines.{count_in}
use Rattle.ways.specs.Rows.{Playable}
use Rattle.ways.specs.declared.rows.Row.{Row}
use Rattle.boards.specs.Boards.{to_in, won_in}
use Rattle.stages.specs.Stages.{hold, due_at, marked_at, rank_of, To, FiresAt, Stays, Waits, Earned, Step, same, Held, Evolved}
use Rattle.stages.proofs.Evolving.{to_one}
use Rattle.boards.proofs.Words.{fires?}

-- a position's number is that of one place of one state
pub one_position : (c s x t y : ℕ) → x < c → y < c → s * c + x ≡ t * c + y → (s ≡ t) × (x ≡ y)
one_position c s x t y small small' e = (
  sym (quotient s x small) ∙ ap (λ (n : ℕ). n / c) e ∙ quotient t y small',
  sym (remainder s x small) ∙ ap (λ (n : ℕ). n % c) e ∙ remainder t y small',
)
  where
    quotient : (q r : ℕ) → r < c → (q * c + r) / c ≡ q
    quotient q r h = mul-add-div_right (omega arith) q r ∙ ap (q +◌) (div-eq_of_lt h) ∙ omega arith

    remainder : (q r : ℕ) → r < c → (q * c + r) % c ≡ r
    remainder q r h = mul-add-mod_self_right q c r ∙ mod-eq_of_lt h

-- and below the number of positions
pub number_below : (b : Block) → Valid b → (row : Row) → Playable b row → (s x : ℕ) → s < L.states b → x < row.places → s * row.places + x < positions (arena_of b row.index)
number_below b valid row playable s x state place =
    let all : positions (arena_of b row.index) ≡ L.states b * row.places = states_times b valid row.index (L.resources b) ∙ ap (L.states b *◌) (sym playable.places_are) in
    let last : suc s * row.places ≤ L.states b * row.places = mul-le-mul_right row.places state in
    omega (arith, suc-mul s row.places)

-- place x is marked if so, and nothing else is
pub record MarkedIf (So : Type 0) (x : ℕ) (flags flags' : List ℕ) : Type 0 where
  pub here : So → marked_at flags' x ≡ 1
  pub still : marked_at flags x ≡ 1 → marked_at flags' x ≡ 1
  pub only : marked_at flags' x ≡ 1 → (marked_at flags x ≡ 1) ⊎ So
  pub others : (y : ℕ) → (y ≡ x → ⊥) → marked_at flags' y ≡ marked_at flags y
  pub due : (y : ℕ) → y < max_stock_places → due_at flags' y ≡ due_at flags y
  pub long : length flags' ≡ length flags

pub marked_here : {So : Type 0} (x : ℕ) (flags : List ℕ) → max_stock_places + x < length flags → So → MarkedIf So x flags (set flags (max_stock_places + x) 1)
marked_here x flags inside so = record {
  here = λ _. get_or-set_same flags (max_stock_places + x) 1 0 inside;
  still = λ _. get_or-set_same flags (max_stock_places + x) 1 0 inside;
  only = λ _. inr so;
  others = λ y ne. get_or-set_other flags (max_stock_places + x) (max_stock_places + y) 1 0 (λ e. ne (omega arith));
  due = λ y small. get_or-set_other flags (max_stock_places + x) y 1 0 (λ e. omega arith);
  long = length-set flags (max_stock_places + x) 1;
}

pub marked_not : {So : Type 0} (x : ℕ) (flags : List ℕ) → (So → ⊥) → MarkedIf So x flags flags
marked_not x flags not = record {
  here = λ so. absurd (not so);
  still = λ e. e;
  only = λ e. inl e;
  others = λ y _. refl;
  due = λ y _. refl;
  long = refl;
}

module _ (b : Block) (valid : Valid b) (row : Row) (playable : Playable b row) (ways board : List ℕ) where
  -- the word of one position of a safe state takes a step, its place is marked if it became a rank, and nothing else changes
  module _ (most : Bool) (safe n s x v : ℕ) {ranks flags ranks' flags' : List ℕ} (state : s < L.states b) (place : x < row.places) (in-safe : Bit safe s)
      (put : Stored rank_in ranks ranks' (s * row.places + x) v) (step : Step b row ways board most n s x (rank_of row ranks s x) v)
      (flagged : MarkedIf ((hold ≤ rank_of row ranks s x) × (v < hold)) x flags flags') where
    here_or_kept : (t y : ℕ) → y < row.places → ((t ≡ s) × (y ≡ x)) ⊎ (rank_of row ranks' t y ≡ rank_of row ranks t y)
    here_or_kept t y small = go (eq? (t * row.places + y) (s * row.places + x))
      where
        go : Dec (t * row.places + y ≡ s * row.places + x) → ((t ≡ s) × (y ≡ x)) ⊎ (rank_of row ranks' t y ≡ rank_of row ranks t y)
        go (yes e) = inl (one_position row.places t y s x small place e)
        go (no ne) = inr (put.others (t * row.places + y) ne)

    steps : (t y : ℕ) → ((t ≡ s) × (y ≡ x)) ⊎ (rank_of row ranks' t y ≡ rank_of row ranks t y) → Step b row ways board most n t y (rank_of row ranks t y) (rank_of row ranks' t y)
    steps t y (inl (e, e')) =
        subst₂ (λ (t y : ℕ). Step b row ways board most n t y (rank_of row ranks t y) (rank_of row ranks' t y)) (sym e) (sym e')
        (subst (Step b row ways board most n s x (rank_of row ranks s x)) (sym put.stored) step)
    steps t y (inr e) = subst (Step b row ways board most n t y (rank_of row ranks t y)) (sym e) same

    safely : (t y : ℕ) → ((t ≡ s) × (y ≡ x)) ⊎ (rank_of row ranks' t y ≡ rank_of row ranks t y) → (rank_of row ranks' t y ≡ rank_of row ranks t y → ⊥) → Bit safe t
    safely t y (inl (e, _)) ne = subst (Bit safe) (sym e) in-safe
    safely t y (inr e) ne = absurd (ne e)

    marked : (t y : ℕ) → ((t ≡ s) × (y ≡ x)) ⊎ (rank_of row ranks' t y ≡ rank_of row ranks t y) → hold ≤ rank_of row ranks t y → rank_of row ranks' t y < hold → marked_at flags' y ≡ 1
    marked t y (inl (e, e')) high low =
        subst (λ (y : ℕ). marked_at flags' y ≡ 1) (sym e')
        (flagged.here (
          subst₂ (λ (t y : ℕ). hold ≤ rank_of row ranks t y) e e' high,
          subst (λ (r : ℕ). r < hold) put.stored (subst₂ (λ (t y : ℕ). rank_of row ranks' t y < hold) e e' low),
        ))
    marked t y (inr e) high low = absurd (omega arith)

    still : (y : ℕ) → Dec (y ≡ x) → marked_at flags y ≡ 1 → marked_at flags' y ≡ 1
    still y (yes e) one = subst (λ (y : ℕ). marked_at flags' y ≡ 1) (sym e) (flagged.still (subst (λ (y : ℕ). marked_at flags y ≡ 1) e one))
    still y (no ne) one = flagged.others y ne ∙ one

    only : (y : ℕ) → Dec (y ≡ x) → marked_at flags' y ≡ 1 → (marked_at flags y ≡ 1) ⊎ ((t : ℕ) × (t < L.states b) × (hold ≤ rank_of row ranks t y) × (rank_of row ranks' t y < hold))
    only y (yes e) one =
        subst (λ (y : ℕ). (marked_at flags y ≡ 1) ⊎ ((t : ℕ) × (t < L.states b) × (hold ≤ rank_of row ranks t y) × (rank_of row ranks' t y < hold))) (sym e)
        (⊎_elim (λ was. inl was) (λ (high, low). inr (s, state, high, subst (λ (r : ℕ). r < hold) (sym put.stored) low)) (flagged.only (subst (λ (y : ℕ). marked_at flags' y ≡ 1) e one)))
    only y (no ne) one = inl (sym (flagged.others y ne) ∙ one)

    pub evolved_one : Evolved b row ways board most safe n ranks flags ranks' flags'
    evolved_one = record {
      steps = λ t y _ small. steps t y (here_or_kept t y small);
      safely = λ t y _ small. safely t y (here_or_kept t y small);
      marked = λ t y _ small. marked t y (here_or_kept t y small);
      still = λ y _. still y (eq? y x);
      only = λ y _. only y (eq? y x);
      due = flagged.due;
      beyond = λ p past. put.others p (λ e. omega (arith, number_below b valid row playable s x state place));
      ranks_long = put.kept;
      flags_long = flagged.long;
    }

  -- the move that is waited for by the word of a position
  pub waits_at : (most : Bool) (ranks : List ℕ) → Held b row ways board most ranks → most ≡ false → (s x k : ℕ) → s < L.states b → x < row.places → rank_of row ranks s x ≡ hold + k → Waits b row ways board s x k
  waits_at most ranks held side s x k state place word =
      let (j, e, waits) = held side s x state place (omega arith) in
      let same : j ≡ k = omega arith in
      subst (Waits b row ways board s x) same waits

  -- a move that was waited for serves now: so do all moves before n, where none of them stays
  module _ (s x k y n : ℕ) (state : s < L.states b) (place : x < row.places) (waits : Waits b row ways board s x k)
      (to : To b row ways board s x k y) (fires : FiresAt b row ways board false s k y) (none : (j : ℕ) → k + 1 ≤ j → j < n → Stays b row ways board s x j → ⊥) where
    serves : (j z : ℕ) → j < n → To b row ways board s x j z → FiresAt b row ways board false s j z
    serves j z less at = go (lt? j k) (eq? j k)
      where
        go : Dec (j < k) → Dec (j ≡ k) → FiresAt b row ways board false s j z
        go (yes l) _ = waits.below j z l at
        go (no _) (yes e) =
            let at' = subst (λ (i : ℕ). To b row ways board s x i z) e at in
            subst (λ (i : ℕ). FiresAt b row ways board false s i z) (sym e)
            (subst (FiresAt b row ways board false s k) (to_one b row ways board playable s x k y z state place to at') fires)
        go (no nl) (no ne) = decide (fires? (to_in board s j) (won_in board z))
          where
            decide : Dec (FiresAt b row ways board false s j z) → FiresAt b row ways board false s j z
            decide (yes f) = f
            decide (no quiet) = absurd (none j (omega arith) less (z, at, quiet))

    pub next_waits : Stays b row ways board s x n → Waits b row ways board s x n
    next_waits (z, at, _) = record { place = z; to = at; below = serves }

    pub all_earned : count_in ways s true ≤ n → Earned b row ways board false s x
    all_earned end j z at = serves j z (omega (arith, at.0)) at
