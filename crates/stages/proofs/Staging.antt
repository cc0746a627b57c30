-- From stage to stage: what is known before stage n, what the stage does and how the board is turned over after it bring what is known before the next.
-- Assumes nothing.
use mathlib.Core.Bool.{Bool, true, false}
use mathlib.Core.List.{List}
use mathlib.Core.Logic.{◌↔◌, ◌⊎◌, inl, inr, ⊎_elim}
use mathlib.Core.Path.{◌≡◌, refl, sym, ◌∙◌, subst}
use Prim.Native.Nat.{ℕ, zero, suc, ◌+◌, ◌*◌, ◌-◌, ◌/◌, ◌%◌, ◌^◌, ◌≤◌, ◌<◌}
use native.Mathlib.Omega.{arith}
use Rattle.block.specs.Decide.{Bit}
use Rattle.block.specs.Layout as L
use Rattle.block.specs.Layout.{Block}
use Rattle.block.specs.Inner.Valid.{Valid}
use Rattle.game.proofs.Numbers.Decide.{eq?, lt?}
use Rattle.turns.specs.Sizes.{max_stock_places}
use Rattle.ways.specs.Lines.{count_in, number_in}
use Rattle.ways.specs.declared.rows.Row.{Row}
use Rattle.ways.proofs.Leading.{few, listed_small}
use Rattle.boards.specs.Boards.{nexts_words, to_in, won_in, Nexts, RankedWithin, Fires}
use Rattle.stages.specs.Stages.{hold, due_at, marked_at, Prepared, rank_of, To, FiresAt, Stays, Waits, Earned, Step, same, ranked, passed, Past, Evolved, PlaceDone, TurnedTo}
use Rattle.stages.specs.Solving.{Attacked, Defended, Rests, Staged}
use Rattle.stages.proofs.Evolving.{to_one, step_ranked, step_unranked, was_unranked, held_still}
use Rattle.stages.proofs.Paths.{to_inside, next_inside}

bit? : (w s : ℕ) → Dec (Bit w s)
bit? w s = eq? (w / 2 ^ s % 2) 1

-- a set has all states of another below n, or lacks one
missing? : (to won n : ℕ) → ((q : ℕ) → q < n → Bit to q → Bit won q) ⊎ ((q : ℕ) × Bit to q × (Bit won q → ⊥))
missing? to won zero = inl (λ q l. absurd (omega arith))
missing? to won (suc n) = go (missing? to won n) (bit? to n) (bit? won n)
  where
    within : ((q : ℕ) → q < n → Bit to q → Bit won q) → (Bit to n → Bit won n) → (q : ℕ) → q < suc n → Dec (q ≡ n) → Bit to q → Bit won q
    within below here q l (yes e) bit = subst (Bit won) (sym e) (here (subst (Bit to) e bit))
    within below here q l (no ne) bit = below q (omega arith) bit

    go : ((q : ℕ) → q < n → Bit to q → Bit won q) ⊎ ((q : ℕ) × Bit to q × (Bit won q → ⊥)) → Dec (Bit to n) → Dec (Bit won n) → ((q : ℕ) → q < suc n → Bit to q → Bit won q) ⊎ ((q : ℕ) × Bit to q × (Bit won q → ⊥))
    go (inr found) _ _ = inr found
    go (inl below) (no none) _ = inl (λ q l. within below (λ h. absurd (none h)) q l (eq? q n))
    go (inl below) (yes here) (yes there) = inl (λ q l. within below (λ _. there) q l (eq? q n))
    go (inl below) (yes here) (no lacks) = inr (n, here, lacks)

-- a rank that is given was earned
step_earned : (b : Block) (row : Row) (ways board : List ℕ) (most : Bool) (n s x : ℕ) {r r' : ℕ} → Step b row ways board most n s x r r' → hold ≤ r → r' < hold → Earned b row ways board most s x × (r' ≡ n)
step_earned b row ways board most n s x same high low = absurd (omega arith)
step_earned b row ways board most n s x (ranked _ earned) high low = (earned, refl)
step_earned b row ways board most n s x (passed k side _ waits stays) high low = absurd (omega arith)

-- a move that is waited for stayed so, or does not serve
step_waiting : (b : Block) (row : Row) (ways board : List ℕ) (n s x : ℕ) {r r' : ℕ} → n < hold → Step b row ways board false n s x r r' → (k : ℕ) → r' ≡ hold + k → (r ≡ hold + k) ⊎ Stays b row ways board s x k
step_waiting b row ways board n s x small same k e = inl e
step_waiting b row ways board n s x small (ranked _ earned) k e = absurd (omega arith)
step_waiting b row ways board n s x small (passed j side _ waits stays) k e = let same : j ≡ k = omega arith in inr (subst (Stays b row ways board s x) same stays)

module _ (b : Block) (valid : Valid b) (row : Row) (ways board : List ℕ) (ready : Prepared b row ways board) (most : Bool) (safe goal n : ℕ) (some : 0 < n) (small : n < hold)
    (ranks flags ranks' flags' board' flags'' : List ℕ) (did : Bool)
    (staged : Staged b row ways board most safe goal n ranks flags)
    (moved : Evolved b row ways board most safe n ranks flags ranks' flags')
    (done : (y : ℕ) → y < row.places → due_at flags y ≡ 1 → (fresh : ℕ) × RankedWithin (L.states b) row.places ranks y (n - 1) n fresh × PlaceDone b row ways board most safe ranks' y fresh)
    (turned : TurnedTo (L.states b) row.places ranks' (n + 1) row.places did board flags' board' flags'') where
  abbrev R : ℕ → ℕ → ℕ
  R s x = rank_of row ranks s x

  abbrev R' : ℕ → ℕ → ℕ
  R' s x = rank_of row ranks' s x

  -- the words of the moves are as before
  to_same : (s k : ℕ) → s < L.states b → k < count_in ways s true → to_in board' s k ≡ to_in board s k
  to_same s k state low = let (a, c) = listed_small b valid row ways ready.listed s k state low in turned.words (64 * s + k) (inl (omega arith))

  pub ready_next : Prepared b row ways board'
  ready_next = record {
    playable = ready.playable;
    listed = ready.listed;
    all = ready.all;
    nexts = λ s k state low. subst (Nexts b row s (number_in ways s true k)) (sym (to_same s k state low)) (ready.nexts s k state low);
    reaches = λ s k q state low bit.
        subst (λ (w : ℕ). Bit w q) (sym (turned.words (nexts_words + max_stock_places + s) (inr (omega arith)))) (ready.reaches s k q state low (subst (λ (w : ℕ). Bit w q) (to_same s k state low) bit));
    long = turned.board_long ∙ ready.long;
  }

  module _ (s x : ℕ) (state : s < L.states b) (place : x < row.places) where
    stays_ranked : R s x < hold → R' s x ≡ R s x
    stays_ranked low = step_ranked b row ways board most n small s x (moved.steps s x state place) low

    was : hold ≤ R' s x → hold ≤ R s x
    was high = was_unranked b row ways board most safe n small moved s x state place high

    -- ranks below n are those that were there
    below_then : R s x < n → R' s x < n
    below_then low = omega (arith, stays_ranked (omega arith))

    below_before : R' s x < n → R s x < n
    below_before low = ⊎_elim (λ e. omega arith) (λ e. absurd (omega arith)) (step_unranked b row ways board most n small s x (moved.steps s x state place) (omega arith))

    -- and one that was not below stays so
    at_least : (m : ℕ) → m ≤ n → m ≤ suc (R s x) → m ≤ suc (R' s x)
    at_least m few enough = go (lt? (R' s x) n)
      where
        go : Dec (R' s x < n) → m ≤ suc (R' s x)
        go (yes low) = omega (arith, stays_ranked (omega (arith, below_before low)))
        go (no ne) = omega arith

    new_below : R' s x < hold → R' s x < n + 1
    new_below low = ⊎_elim (λ e. omega (arith, staged.below s x state place (omega arith))) (λ e. omega arith) (step_unranked b row ways board most n small s x (moved.steps s x state place) low)

    -- a rank that was not there is n, and its place is marked
    new_marked : R' s x ≡ n → marked_at flags' x ≡ 1
    new_marked e = go (lt? (R s x) hold)
      where
        go : Dec (R s x < hold) → marked_at flags' x ≡ 1
        go (yes low) = absurd (omega (arith, stays_ranked low, staged.below s x state place low))
        go (no ne) = moved.marked s x state place (omega arith) (omega arith)

  next_words : (y q : ℕ) → y < row.places → q < L.states b → Bit (won_in board' y) q ↔ (R' q y < n + 1)
  next_words y q place state = go (eq? (marked_at flags' y) 1)
    where
      go : Dec (marked_at flags' y ≡ 1) → Bit (won_in board' y) q ↔ (R' q y < n + 1)
      go (yes marked) = let now = (turned.set y place marked).each q state in (λ bit. (now.0 bit).1, λ low. now.1 (omega arith, low))
      go (no ne) =
          let old = staged.words y q place state in
          let kept = turned.kept y place ne in (
            λ bit. omega (arith, below_then q y state place (old.0 (subst (λ (w : ℕ). Bit w q) kept bit))),
            λ low. subst (λ (w : ℕ). Bit w q) (sym kept) (old.1 (below_before q y state place (fewer low (eq? (R' q y) n)))),
          )
        where
          fewer : R' q y < n + 1 → Dec (R' q y ≡ n) → R' q y < n
          fewer low (yes e) = absurd (ne (new_marked q y state place e))
          fewer low (no other) = omega arith

  -- a state that is won stays won
  won_still : (y q : ℕ) → y < row.places → q < L.states b → Bit (won_in board y) q → Bit (won_in board' y) q
  won_still y q place state bit = (next_words y q place state).1 (omega (arith, below_then q y state place ((staged.words y q place state).0 bit)))

  waits_next : (s x k : ℕ) → s < L.states b → x < row.places → Waits b row ways board s x k → Waits b row ways board' s x k
  waits_next s x k state place waits = record {
    place = waits.place;
    to = waits.to;
    below = λ j y less to.
        let (q, bit, won) = waits.below j y less to in
        let inside = next_inside b valid row ways board ready s state j q to.0 bit in
        (q, subst (λ (w : ℕ). Bit w q) (sym (to_same s j state to.0)) bit, won_still y q (to_inside b valid row ways board ready s state x j y to) inside won);
  }

  -- a move that serves the attack leads below n
  fires_below : (s x k y : ℕ) → s < L.states b → To b row ways board s x k y → (q : ℕ) → Bit (to_in board s k) q → Bit (won_in board y) q → R' q y < n
  fires_below s x k y state to q bit won =
      let inside = next_inside b valid row ways board ready s state k q to.0 bit in
      let place = to_inside b valid row ways board ready s state x k y to in
      below_then q y inside place ((staged.words y q place inside).0 won)

  bit_next : (s k q : ℕ) → s < L.states b → k < count_in ways s true → Bit (to_in board' s k) q → Bit (to_in board s k) q
  bit_next s k q state low bit = subst (λ (w : ℕ). Bit w q) (to_same s k state low) bit

  bit_then : (s k q : ℕ) → s < L.states b → k < count_in ways s true → Bit (to_in board s k) q → Bit (to_in board' s k) q
  bit_then s k q state low bit = subst (λ (w : ℕ). Bit w q) (sym (to_same s k state low)) bit

  -- the attack and the defence of a position, by the ranks as they are now
  module _ (s x m : ℕ) (state : s < L.states b) (few-m : m ≤ n) where
    attacked_next : (side : Bool) → Attacked b row ways board most ranks side m s x → Attacked b row ways board' most ranks' side m s x
    attacked_next true (k, y, to, each) = (
      k,
      y,
      to,
      λ q bit.
          let old = bit_next s k q state to.0 bit in
          let inside = next_inside b valid row ways board ready s state k q to.0 old in
          omega (arith, each q old, stays_ranked q y inside (to_inside b valid row ways board ready s state x k y to) (omega (arith, each q old))),
    )
    attacked_next false each = λ k y to.
        let (q, bit, low) = each k y to in
        let inside = next_inside b valid row ways board ready s state k q to.0 bit in
        (q, bit_then s k q state to.0 bit, omega (arith, low, stays_ranked q y inside (to_inside b valid row ways board ready s state x k y to) (omega arith)))

    defended_next : (side : Bool) → Defended b row ways board most ranks side m s x → Defended b row ways board' most ranks' side m s x
    defended_next true each = λ k y to.
        let (q, bit, enough) = each k y to in
        let inside = next_inside b valid row ways board ready s state k q to.0 bit in
        (q, bit_then s k q state to.0 bit, at_least q y inside (to_inside b valid row ways board ready s state x k y to) m few-m enough)
    defended_next false (k, y, to, each) = (
      k,
      y,
      to,
      λ q bit.
          let old = bit_next s k q state to.0 bit in
          let inside = next_inside b valid row ways board ready s state k q to.0 old in
          at_least q y inside (to_inside b valid row ways board ready s state x k y to) m few-m (each q old),
    )

  -- what was earned is an attack below n
  earned_attacked : (s x : ℕ) → s < L.states b → (side : Bool) → Earned b row ways board side s x → Attacked b row ways board' most ranks' side n s x
  earned_attacked s x state true (k, y, to, fires) = (
    k,
    y,
    to,
    λ q bit.
        let old = bit_next s k q state to.0 bit in
        fires_below s x k y state to q old (fires q old),
  )
  earned_attacked s x state false each = λ k y to.
      let (q, bit, won) = each k y to in
      (q, bit_then s k q state to.0 bit, fires_below s x k y state to q bit won)

  -- what rested before stage n is defended from below n
  rests_defended : (s x : ℕ) → s < L.states b → (side : Bool) → Rests b row ways board most ranks side n s x → Defended b row ways board' most ranks' side n s x
  rests_defended s x state true rests = defended_next s x n state (omega arith) true rests
  rests_defended s x state false (k, e, waits, each) = defended_next s x n state (omega arith) false (k, waits.place, waits.to, each)

  -- a place with a rank one below n was due, so that moves that serve newly there are past
  newly_past : (s x k y q : ℕ) → s < L.states b → x < row.places → Bit safe s → To b row ways board s x k y → Bit (to_in board s k) q → suc (R q y) ≡ n → FiresAt b row ways board most s k y
      → Past b row ways board most k (R' s x)
  newly_past s x k y q state place safely to bit last fires =
      let at = to_inside b valid row ways board ready s state x k y to in
      let inside = next_inside b valid row ways board ready s state k q to.0 bit in
      let (fresh, is-fresh, past) = done y at (staged.due q y inside at last) in
      past s state safely k to.0 (fires, (q, bit, (is-fresh.each q inside).1 (omega arith, omega arith))) x place to

  -- until: a position that is still unranked has no move whose next states are all below n + 1
  until_rests : most ≡ true → (s x : ℕ) → s < L.states b → x < row.places → Bit safe s → hold ≤ R' s x → Defended b row ways board' most ranks' true (n + 1) s x
  until_rests side s x state place safely high k y to = go (missing? (to_in board s k) (won_in board y) (L.states b))
    where
      at : y < row.places
      at = to_inside b valid row ways board ready s state x k y to

      go : ((q : ℕ) → q < L.states b → Bit (to_in board s k) q → Bit (won_in board y) q) ⊎ ((q : ℕ) × Bit (to_in board s k) q × (Bit (won_in board y) q → ⊥))
          → (q : ℕ) × Bit (to_in board' s k) q × (n + 1 ≤ suc (R' q y))
      go (inr (q, bit, lacks)) =
          let inside = next_inside b valid row ways board ready s state k q to.0 bit in
          (q, bit_then s k q state to.0 bit, most_of q inside (lt? (R' q y) n) lacks)
        where
          most_of : (q : ℕ) → q < L.states b → Dec (R' q y < n) → (Bit (won_in board y) q → ⊥) → n + 1 ≤ suc (R' q y)
          most_of q inside (yes low) lacks = absurd (lacks ((staged.words y q at inside).1 (below_before q y inside at low)))
          most_of q inside (no ne) lacks = omega arith
      go (inl all) =
          let (q, bit, enough) = subst (λ (t : Bool). Rests b row ways board most ranks t n s x) side (staged.rests s x state place safely (was s x state place high)) k y to in
          let inside = next_inside b valid row ways board ready s state k q to.0 bit in
          let low = (staged.words y q at inside).0 (all q inside bit) in
          let fires : Fires true (to_in board s k) (won_in board y) = λ j have. all j (next_inside b valid row ways board ready s state k j to.0 have) have in
          let past = newly_past s x k y q state place safely to bit (omega arith) (subst (λ (t : Bool). Fires t (to_in board s k) (won_in board y)) (sym side) fires) in
          let ranked-now = subst (λ (t : Bool). Past b row ways board t k (R' s x)) side past in
          absurd (omega arith)

  -- always: the move that is waited for has no next state below n + 1
  always_rests : most ≡ false → (s x : ℕ) → s < L.states b → x < row.places → Bit safe s → hold ≤ R' s x → Rests b row ways board' most ranks' false (n + 1) s x
  unfolding waits_next
  always_rests side s x state place safely high =
      let (k, e, waits) = held_still b row ways board most safe n small moved staged.held side s x state place high in (
        k,
        e,
        waits_next s x k state place waits,
        λ q bit.
            let old = bit_next s k q state waits.to.0 bit in
            rest k e waits q old (lt? (R' q waits.place) n),
      )
    where
      rest : (k : ℕ) → R' s x ≡ hold + k → (waits : Waits b row ways board s x k) → (q : ℕ) → Bit (to_in board s k) q → Dec (R' q waits.place < n) → n + 1 ≤ suc (R' q waits.place)
      rest k e waits q bit (no ne) = omega arith
      rest k e waits q bit (yes low) = absurd (⊎_elim waited quiet (step_waiting b row ways board n s x small (subst (λ (t : Bool). Step b row ways board t n s x (R s x) (R' s x)) side (moved.steps s x state place)) k e))
        where
          y : ℕ
          y = waits.place

          at : waits.place < row.places
          at = to_inside b valid row ways board ready s state x k waits.place waits.to

          inside : q < L.states b
          inside = next_inside b valid row ways board ready s state k q waits.to.0 bit

          before : R q waits.place < n
          before = below_before q waits.place inside at low

          fires : FiresAt b row ways board false s k waits.place
          fires = (q, bit, (staged.words waits.place q at inside).1 before)

          quiet : Stays b row ways board s x k → ⊥
          quiet (z, to, none) = none (subst (FiresAt b row ways board false s k) (to_one b row ways board ready.playable s x k waits.place z state place waits.to to) fires)

          waited : R s x ≡ hold + k → ⊥
          waited e' =
              let (j, e'', first, each) = subst (λ (t : Bool). Rests b row ways board most ranks t n s x) side (staged.rests s x state place safely (was s x state place high)) in
              let is : j ≡ k = omega arith in
              let (first_to, each-k) = subst (λ (i : ℕ). To b row ways board s x i first.place × ((q : ℕ) → Bit (to_in board s i) q → n ≤ suc (R q first.place))) is (first.to, each) in
              let there : first.place ≡ waits.place = to_one b row ways board ready.playable s x k first.place waits.place state place first_to waits.to in
              let all = subst (λ (z : ℕ). (q : ℕ) → Bit (to_in board s k) q → n ≤ suc (R q z)) there each-k in
              let past = newly_past s x k waits.place q state place safely waits.to bit (omega (arith, all q bit, before)) (subst (λ (t : Bool). Fires t (to_in board s k) (won_in board waits.place)) (sym side) fires) in
              subst (λ (t : Bool). Past b row ways board t k (R' s x)) side past e

  rests_next : (side : Bool) → most ≡ side → (s x : ℕ) → s < L.states b → x < row.places → Bit safe s → hold ≤ R' s x → Rests b row ways board' most ranks' side (n + 1) s x
  rests_next true is s x state place safely high = until_rests is s x state place safely high
  rests_next false is s x state place safely high = always_rests is s x state place safely high

  pub staged_next : Staged b row ways board' most safe goal (n + 1) ranks' flags''
  staged_next = record {
    words = next_words;
    below = new_below;
    due = λ s x state place e. turned.due x place ∙ new_marked s x state place (omega arith);
    clear = turned.cleared;
    reached = λ s x state place e. ⊎_elim (λ e'. staged.reached s x state place (omega arith)) (λ e'. absurd (omega arith)) (step_unranked b row ways board most n small s x (moved.steps s x state place) (omega arith));
    goals = λ s x state place g. let zero = staged.goals s x state place g in omega (arith, stays_ranked s x state place (omega arith));
    attacked = λ s x state place positive low. attacked s x state place positive low (lt? (R s x) hold);
    defended = λ s x state place positive low. defended s x state place positive low (lt? (R s x) hold);
    held = λ side s x state place high.
        let (k, e, waits) = held_still b row ways board most safe n small moved staged.held side s x state place high in
        (k, e, waits_next s x k state place waits);
    rests = λ s x state place safely high. rests_next most refl s x state place safely high;
  }
    where
      earned : (s x : ℕ) → s < L.states b → x < row.places → R' s x < hold → hold ≤ R s x → Earned b row ways board most s x × (R' s x ≡ n)
      earned s x state place low high = step_earned b row ways board most n s x (moved.steps s x state place) high low

      safe_then : (s x : ℕ) → s < L.states b → x < row.places → R' s x < hold → hold ≤ R s x → Bit safe s
      safe_then s x state place low high = moved.safely s x state place (λ e. omega arith)

      attacked : (s x : ℕ) → s < L.states b → x < row.places → 0 < R' s x → R' s x < hold → Dec (R s x < hold) → Bit safe s × Attacked b row ways board' most ranks' most (R' s x) s x
      attacked s x state place positive low (yes old) =
          let e = stays_ranked s x state place old in
          let (safely, attack) = staged.attacked s x state place (omega arith) old in
          (safely, subst (λ (m : ℕ). Attacked b row ways board' most ranks' most m s x) (sym e) (attacked_next s x (R s x) state (omega (arith, staged.below s x state place old)) most attack))
      attacked s x state place positive low (no ne) =
          let (got, e) = earned s x state place low (omega arith) in
          (safe_then s x state place low (omega arith), subst (λ (m : ℕ). Attacked b row ways board' most ranks' most m s x) (sym e) (earned_attacked s x state most got))

      defended : (s x : ℕ) → s < L.states b → x < row.places → 0 < R' s x → R' s x < hold → Dec (R s x < hold) → Defended b row ways board' most ranks' most (R' s x) s x
      defended s x state place positive low (yes old) =
          let e = stays_ranked s x state place old in
          subst (λ (m : ℕ). Defended b row ways board' most ranks' most m s x) (sym e)
          (defended_next s x (R s x) state (omega (arith, staged.below s x state place old)) most (staged.defended s x state place (omega arith) old))
      defended s x state place positive low (no ne) =
          let (got, e) = earned s x state place low (omega arith) in
          subst (λ (m : ℕ). Defended b row ways board' most ranks' most m s x) (sym e)
          (rests_defended s x state most (staged.rests s x state place (safe_then s x state place low (omega arith)) (omega arith)))
