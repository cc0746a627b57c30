-- Parts of a stage compose, and what is done stays done. Assumes nothing.
use mathlib.Core.Bool.{Bool, true, false}
use mathlib.Core.List.{List}
use mathlib.Core.Logic.{◌⊎◌, inl, inr, ⊎_elim}
use mathlib.Core.Path.{◌≡◌, refl, sym, ◌∙◌, subst}
use Prim.Native.Nat.{ℕ, ◌+◌, ◌≤◌, ◌<◌}
use native.Mathlib.Omega.{arith}
use Rattle.block.specs.Layout as L
use Rattle.block.specs.Layout.{Block}
use Rattle.block.specs.Decide.{Bit}
use Rattle.game.specs.Model.{arena_of}
use Rattle.game.proofs.Numbers.Decide.{eq?, lt?}
use Rattle.ways.specs.Rows.{Playable}
use Rattle.ways.specs.declared.rows.Row.{Row}
use Rattle.ways.proofs.Placing.{place_position}
use Rattle.stages.specs.Stages.{hold, marked_at, rank_of, To, FiresAt, Waits, Step, same, ranked, passed, Held, Past, Evolved, Lent, DoneWith}

module _ (b : Block) (row : Row) (ways board : List ℕ) where
  -- a move lands at one place only
  pub to_one : Playable b row → (s x k y y' : ℕ) → s < L.states b → x < row.places → To b row ways board s x k y → To b row ways board s x k y' → y ≡ y'
  to_one playable s x k y y' state place (_, lands) (_, lands') =
      let (p, placed) = place_position (arena_of b row.index) s x state (omega (arith, playable.places_are)) in
      sym ((lands.1 p placed).1 0) ∙ (lands'.1 p placed).1 0

  module _ (most : Bool) (n : ℕ) (small : n < hold) (s x : ℕ) where
    -- a word that stood for a rank stays
    pub step_ranked : {r r' : ℕ} → Step b row ways board most n s x r r' → r < hold → r' ≡ r
    step_ranked same low = refl
    step_ranked (ranked high earned) low = absurd (omega arith)
    step_ranked (passed k side high waits stays) low = absurd (omega arith)

    -- a word for none becomes this rank, or one for none
    pub step_unranked : {r r' : ℕ} → Step b row ways board most n s x r r' → r' < hold → (r' ≡ r) ⊎ (r' ≡ n)
    step_unranked same low = inl refl
    step_unranked (ranked high earned) low = inr refl
    step_unranked (passed k side high waits stays) low = absurd (omega arith)

    pub step_then : {r r' r'' : ℕ} → Step b row ways board most n s x r r' → Step b row ways board most n s x r' r'' → Step b row ways board most n s x r r''
    step_then same next = next
    step_then (ranked high earned) same = ranked high earned
    step_then (ranked high earned) (ranked high' earned') = absurd (omega arith)
    step_then (ranked high earned) (passed k side high' waits stays) = absurd (omega arith)
    step_then (passed k side high waits stays) same = passed k side high waits stays
    step_then (passed k side high waits stays) (ranked high' earned) = ranked high earned
    step_then (passed k side high waits stays) (passed k' side' high' waits' stays') = passed k' side' high waits' stays'

    -- what is waited for stays so, or another move is
    pub step_waits : {r r' : ℕ} → Step b row ways board most n s x r r' → hold ≤ r' → ((k : ℕ) × (r ≡ hold + k) × Waits b row ways board s x k) → (k : ℕ) × (r' ≡ hold + k) × Waits b row ways board s x k
    step_waits same high held = held
    step_waits (ranked high' earned) high held = absurd (omega arith)
    step_waits (passed k side high' waits stays) high held = (k, refl, waits)

  -- a move that serves is past for good
  pub step_past : Playable b row → (most : Bool) (n : ℕ) → n < hold → (s x k y : ℕ) → s < L.states b → x < row.places → To b row ways board s x k y → FiresAt b row ways board most s k y
      → {r r' : ℕ} → Step b row ways board most n s x r r' → Past b row ways board most k r → Past b row ways board most k r'
  step_past playable most n small s x k y state place to fires same past = past
  step_past playable true n small s x k y state place to fires (ranked high earned) past = small
  step_past playable false n small s x k y state place to fires (ranked high earned) past = λ e. absurd (omega arith)
  step_past playable true n small s x k y state place to fires (passed j side high waits stays) past = absurd (omega arith)
  step_past playable false n small s x k y state place to fires (passed j side high waits (z, at, quiet)) past = λ e.
      let same : j ≡ k = omega arith in
      let (at', quiet') = subst (λ (i : ℕ). To b row ways board s x i z × (FiresAt b row ways board false s i z → ⊥)) same (at, quiet) in
      quiet' (subst (FiresAt b row ways board false s k) (to_one playable s x k y z state place to at') fires)

  module _ (most : Bool) (safe n : ℕ) where
    -- nothing happened
    pub evolved_none : (ranks flags : List ℕ) → Evolved b row ways board most safe n ranks flags ranks flags
    evolved_none ranks flags = record {
      steps = λ s x _ _. same;
      safely = λ s x _ _ ne. absurd (ne refl);
      marked = λ s x _ _ high low. absurd (omega arith);
      still = λ x _ e. e;
      only = λ x _ e. inl e;
      due = λ y _. refl;
      beyond = λ p _. refl;
      ranks_long = refl;
      flags_long = refl;
    }

    module _ (small : n < hold) {ranks flags ranks' flags' : List ℕ} (first : Evolved b row ways board most safe n ranks flags ranks' flags') where
      -- what was unranked is ranked, or unranked still
      pub was_unranked : (s x : ℕ) → s < L.states b → x < row.places → hold ≤ rank_of row ranks' s x → hold ≤ rank_of row ranks s x
      was_unranked s x state place high = go (lt? (rank_of row ranks s x) hold)
        where
          go : Dec (rank_of row ranks s x < hold) → hold ≤ rank_of row ranks s x
          go (yes low) = absurd (omega (arith, step_ranked most n small s x (first.steps s x state place) low))
          go (no ne) = omega arith

      pub held_still : Held b row ways board most ranks → Held b row ways board most ranks'
      held_still held side s x state place high = step_waits most n small s x (first.steps s x state place) high (held side s x state place (was_unranked s x state place high))

      -- and the buffers are as before
      pub lent_still : Lent b row ways board most n ranks flags → Lent b row ways board most n ranks' flags'
      lent_still lent = record {
        small = lent.small;
        held = held_still lent.held;
        ranks_long = first.ranks_long ∙ lent.ranks_long;
        flags_long = first.flags_long ∙ lent.flags_long;
      }

      -- one part after another
      pub evolved_then : {ranks'' flags'' : List ℕ} → Evolved b row ways board most safe n ranks' flags' ranks'' flags'' → Evolved b row ways board most safe n ranks flags ranks'' flags''
      evolved_then {ranks''} {flags''} next = record {
        steps = λ s x state place. step_then most n small s x (first.steps s x state place) (next.steps s x state place);
        safely = λ s x state place ne. safely s x state place ne (eq? (rank_of row ranks' s x) (rank_of row ranks s x));
        marked = λ s x state place high low. marked s x state place high low (lt? (rank_of row ranks' s x) hold);
        still = λ x place e. next.still x place (first.still x place e);
        only = λ x place e. ⊎_elim (λ e'. again x place (first.only x place e')) (λ (s, state, high, low). inr (s, state, was_unranked s x state place high, low)) (next.only x place e);
        due = λ y l. next.due y l ∙ first.due y l;
        beyond = λ p l. next.beyond p l ∙ first.beyond p l;
        ranks_long = next.ranks_long ∙ first.ranks_long;
        flags_long = next.flags_long ∙ first.flags_long;
      }
        where
          safely : (s x : ℕ) → s < L.states b → x < row.places → (rank_of row ranks'' s x ≡ rank_of row ranks s x → ⊥) → Dec (rank_of row ranks' s x ≡ rank_of row ranks s x) → Bit safe s
          safely s x state place ne (yes e) = next.safely s x state place (λ e'. ne (e' ∙ e))
          safely s x state place ne (no ne') = first.safely s x state place ne'

          marked : (s x : ℕ) → s < L.states b → x < row.places → hold ≤ rank_of row ranks s x → rank_of row ranks'' s x < hold → Dec (rank_of row ranks' s x < hold) → marked_at flags'' x ≡ 1
          marked s x state place high low (yes l) = next.still x place (first.marked s x state place high l)
          marked s x state place high low (no ne) = next.marked s x state place (omega arith) low

          again : (x : ℕ) → x < row.places → (marked_at flags x ≡ 1) ⊎ ((s : ℕ) × (s < L.states b) × (hold ≤ rank_of row ranks s x) × (rank_of row ranks' s x < hold))
              → (marked_at flags x ≡ 1) ⊎ ((s : ℕ) × (s < L.states b) × (hold ≤ rank_of row ranks s x) × (rank_of row ranks'' s x < hold))
          again x place (inl e) = inl e
          again x place (inr (s, state, high, low)) = inr (s, state, high, omega (arith, step_ranked most n small s x (next.steps s x state place) low))

      -- places that are done with stay so
      pub done_still : Playable b row → (s k y : ℕ) → s < L.states b → FiresAt b row ways board most s k y → DoneWith b row ways board most ranks s k y → DoneWith b row ways board most ranks' s k y
      done_still playable s k y state fires done x place to = step_past playable most n small s x k y state place to fires (first.steps s x state place) (done x place to)
